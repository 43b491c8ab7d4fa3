-- A source is accepted, refused or over a limit, and only one of these.
use Rattle.std.proofs.Common.{◌≡◌, ℕ, List, [], length, map, ◌++◌, Option, subst, sym, ap, ◌∙◌, arith}
use Rattle.oxml_base.specs.declared.refusal.Limit.{Limit}
use Rattle.oxml_base.specs.declared.refusal.Refusal.{Refusal}
use Rattle.oxml_base.specs.declared.span.Span.{Span}
use Rattle.ml_lexer.specs.declared.token.Token.{Token}
use Rattle.ml_lexer.proofs.Unique.{one_list, never_both, no_more_tokens, no_more_before_fault}
use Rattle.ml_tree.specs.declared.program.Item.{Item}
use Rattle.ml_tree.specs.declared.program.Program.{Program}
use Rattle.ml_tree.specs.declared.scoped.Scoped.{Scoped}
use Rattle.ml_scope.specs.Captures.{captures}
use Rattle.ml_scope.specs.Readings.{Among, offences, references, type_references}
use Rattle.ml_scope.specs.Resolving.{found_in}
use Rattle.ml_grammar.specs.Programs.{Derives}
use Rattle.ml_grammar.proofs.Programs.{one_program}
use Rattle.oxml_driver.specs.Build.{IsRefused, Passes, PrintsTexts, Violates, lexical, syntax_error, misnamed, ill_declared, form, bytes, tokens, captures as of_captures, ill_typed, type_size}
use Rattle.oxml_driver.specs.Form.{IsLeftOut, ItemPrints, LeftOut, PrintTexts, built_in, prints, prints_none, binds_other, nothing, item_and, here, behind}
use Rattle.ml_types.specs.declared.declared.Decls.{Decls}
use Rattle.ml_types.specs.declared.node.TyTable.{TyTable}
use Rattle.ml_mentions.specs.Programs.{declarations}
use Rattle.ml_decls.specs.Offences.{Offends}
use Rattle.ml_decls.specs.Said.{said, predefined}
use Rattle.ml_decls.specs.Tables.{Each, Says}
use Rattle.ml_typing.specs.Typing.{steps_of_item}
use Rattle.ml_typing.specs.Refusals.{FirstFault, IsTooLarge}
use Rattle.hm_infer.specs.declared.error.InferErr.TheVariants.{Refused}
use Rattle.hm_infer.specs.Answers.{IsRefusedBy, items_of}
use Rattle.oxml_driver.specs.Declarations.{IsDeclared, IsDeclaredAs, IsIllDeclared}
use Rattle.oxml_driver.specs.Types.{HasLargeType, IsIllTyped, IsWellTyped, UsesApart, context_of}
use Rattle.oxml_driver.specs.Names.{HasManyCaptures, IsMisnamed, IsScoped}
use Rattle.oxml_driver.proofs.SameContexts.{IsSame, first_same}
use Rattle.oxml_driver.proofs.SameProgram.{print_too}
use Rattle.oxml_driver.proofs.TypedOnce.{refused_too, first_large_too, typed_or_refused, typed_or_too_large, refused_or_too_large}
use Rattle.oxml_driver.specs.Source.{AreTokens, HasTokens, HasFault, HasTooMany, IsFaulty, IsTooMany, IsProgram, IsNoProgram, in_file, in_built_in, program_text}

-- ---- a part of a text has tokens, a fault or too many

no_fault : {text : List ℕ} {part : Span} {ts : List Token} {r : Refusal} → HasTokens text part ts → HasFault text part r → ⊥
no_fault has bad = never_both _ _ _ _ _ has.divides bad.fault

few_tokens : {text : List ℕ} {part : Span} {ts : List Token} → HasTokens text part ts → HasTooMany text part → ⊥
few_tokens has many =
    let more = no_more_tokens _ _ _ _ many.begins has.divides in
    let few = has.few in
    let front = many.many in
    omega arith

few_before : {text : List ℕ} {part : Span} {r : Refusal} → HasFault text part r → HasTooMany text part → ⊥
few_before bad many =
    let more = no_more_before_fault _ _ _ _ _ many.begins bad.fault in
    let few = bad.few in
    let front = many.many in
    omega arith

same_tokens : {text : List ℕ} {part : Span} {ts us : List Token} → HasTokens text part ts → HasTokens text part us → us ≡ ts
same_tokens one other = one_list _ _ _ _ one.divides other.divides

-- ---- the tokens of a program

tokens_or_fault : {source : List ℕ} {ts : List Token} {r : Refusal} → AreTokens source ts → IsFaulty source r → ⊥
tokens_or_fault are (in_file bad) = no_fault are.file_has bad
tokens_or_fault are (in_built_in has bad) = no_fault are.built_in_has bad

tokens_or_many : {source : List ℕ} {ts : List Token} → AreTokens source ts → IsTooMany source → ⊥
tokens_or_many are (in_file many) = few_tokens are.file_has many
tokens_or_many are (in_built_in has many) = few_tokens are.built_in_has many

fault_or_many : {source : List ℕ} {r : Refusal} → IsFaulty source r → IsTooMany source → ⊥
fault_or_many (in_file bad) (in_file many) = few_before bad many
fault_or_many (in_file bad) (in_built_in has many) = no_fault has bad
fault_or_many (in_built_in has bad) (in_file many) = few_tokens has many
fault_or_many (in_built_in has bad) (in_built_in has' many) = few_before bad many

one_tokens : {source : List ℕ} {ts us : List Token} → AreTokens source ts → AreTokens source us → us ≡ ts
one_tokens a b =
    let f = same_tokens a.file_has b.file_has in
    let p = same_tokens a.built_in_has b.built_in_has in
    let one = a.all in
    let other = b.all in
    cc

program_or_none : {source : List ℕ} {p : Program} → IsProgram source p → IsNoProgram source → ⊥
program_or_none {source} {p} is none =
    none.no_tree p (subst (λ ts. Derives (program_text source) ts p) (one_tokens none.are_tokens is.are_tokens) is.derives)

one_program_of : {source : List ℕ} {p q : Program} → IsProgram source p → IsProgram source q → p ≡ q
one_program_of {source} {p} {q} one other =
    one_program _ _ _ _ other.derives (subst (λ ts. Derives (program_text source) ts p) (one_tokens other.are_tokens one.are_tokens) one.derives)

-- ---- the names of a program

-- the journal of what the program of a source uses and declares is one
same_names : {source : List ℕ} {p q : Program} → IsProgram source p → IsProgram source q → found_in (program_text source) p.items ≡ found_in (program_text source) q.items
same_names {source} one other =
    ap (λ p. found_in (program_text source) p.items) (one_program_of one other)

offends : (r : Refusal) (rs : List Refusal) → Among r rs → rs ≡ [] → ⊥
offends r rs among none = subst (λ rs. Among r rs) none among

scoped_or_misnamed : {source : List ℕ} {scoped : Scoped} {r : Refusal} → IsScoped source scoped → IsMisnamed source r → ⊥
scoped_or_misnamed {source} {scoped} {r} is wrong =
    offends r _ wrong.first.among (ap offences (same_names wrong.is_program is.is_program) ∙ is.resolved.sound)

many_or_misnamed : {source : List ℕ} {r : Refusal} → HasManyCaptures source → IsMisnamed source r → ⊥
many_or_misnamed {source} {r} many wrong =
    offends r _ wrong.first.among (ap offences (same_names wrong.is_program many.is_program) ∙ many.sound)

scoped_or_many : {source : List ℕ} {scoped : Scoped} → IsScoped source scoped → HasManyCaptures source → ⊥
scoped_or_many is many =
    let same = ap (λ js. length (captures js)) (same_names is.is_program many.is_program) in
    let few = is.resolved.few in
    let more = many.many in
    omega (arith, same, few, more)

-- what the nodes of a source's program name is one list
same_refs : {source : List ℕ} {s t : Scoped} → IsScoped source s → IsScoped source t → s.refs ≡ t.refs
same_refs one other =
    one.resolved.refs ∙ (ap references (same_names one.is_program other.is_program) ∙ sym other.resolved.refs)

-- what the type expressions of a source's program name is one list
same_types : {source : List ℕ} {s t : Scoped} → IsScoped source s → IsScoped source t → s.types ≡ t.types
same_types {source} one other =
    one.resolved.types ∙ (ap (type_references (program_text source)) (same_names one.is_program other.is_program) ∙ sym other.resolved.types)

-- ---- the declarations of a program

ill_or_declared : {source : List ℕ} {scoped : Scoped} {r : Refusal} → IsDeclared source scoped → IsIllDeclared source r → ⊥
ill_or_declared {source} {scoped} {r} is wrong =
    let types = same_types wrong.is_scoped is.is_scoped in
    let program = one_program_of wrong.is_scoped.is_program is.is_scoped.is_program in
    let with_types = subst (λ types. Offends (program_text source) types wrong.scoped.program.items r) types wrong.first.offends in
    is.sound r (subst (λ p. Offends (program_text source) scoped.types p.items r) program with_types)

-- ---- the types of a program

-- two programs of a source with their declarations have one list of equations, read by contexts in which
-- terms stand for the same types
record Meet (s t : Scoped) (decls kinds : Decls) (table other : TyTable) : Type 0 where
  items : items_of s ≡ items_of t
  contexts : IsSame (context_of decls table) (context_of kinds other)

meet : {source : List ℕ} {s t : Scoped} {decls kinds : Decls} {table other : TyTable} → IsDeclaredAs source s decls table → IsDeclaredAs source t kinds other → Meet s t decls kinds table other
meet {source} {s} {t} {decls} {kinds} {table} {other} one two =
    let program : s.program ≡ t.program = one_program_of one.is_declared.is_scoped.is_program two.is_declared.is_scoped.is_program in
    let types : s.types ≡ t.types = same_types one.is_declared.is_scoped two.is_declared.is_scoped in
    let refs : s.refs ≡ t.refs = same_refs one.is_declared.is_scoped two.is_declared.is_scoped in
    let say : Each (Says other.nodes) kinds.types (predefined ++ map (said s.types) (declarations s.program.items)) = subst (λ p. Each (Says other.nodes) kinds.types (predefined ++ map (said s.types) (declarations p.items))) (sym program) (subst (λ ts. Each (Says other.nodes) kinds.types (predefined ++ map (said ts) (declarations t.program.items))) (sym types) two.declares.say) in
    record {
      items = ap (λ p. map (steps_of_item s.refs s.types) p.items) program ∙ ap (λ rs. map (steps_of_item rs s.types) t.program.items) refs ∙ ap (λ ts. map (steps_of_item t.refs ts) t.program.items) types;
      contexts = first_same table.nodes other.nodes decls.types kinds.types (predefined ++ map (said s.types) (declarations s.program.items)) one.declares.say say;
    }

well_or_ill_typed : {source : List ℕ} {s : Scoped} {r : Refusal} → UsesApart source → IsWellTyped source s → IsIllTyped source r → ⊥
well_or_ill_typed {source} {s} {r} apart well ill =
    let m : Meet ill.scoped s ill.decls well.decls ill.table well.table = meet ill.declared well.declared in
    let there : IsRefusedBy (context_of ill.decls ill.table) (items_of s) (Refused r) = subst (λ is. IsRefusedBy (context_of ill.decls ill.table) is (Refused r)) m.items ill.refused in
    let uses = apart s well.declared.is_declared in
    typed_or_refused uses.0 (context_of well.decls well.table) (items_of s) uses.1 s.program.nodes well.typed r well.is_typed (refused_too _ _ m.contexts (items_of s) r there)

well_typed_or_large : {source : List ℕ} {s : Scoped} {span : Span} → UsesApart source → IsWellTyped source s → HasLargeType source span → ⊥
well_typed_or_large {source} {s} {span} apart well large =
    let m : Meet large.scoped s large.decls well.decls large.table well.table = meet large.declared well.declared in
    let there : FirstFault (context_of large.decls large.table) (items_of s) (λ e steps. IsTooLarge e steps span) = subst (λ is. FirstFault (context_of large.decls large.table) is (λ e steps. IsTooLarge e steps span)) m.items large.large in
    let uses = apart s well.declared.is_declared in
    typed_or_too_large uses.0 (context_of well.decls well.table) (items_of s) uses.1 s.program.nodes well.typed span well.is_typed (first_large_too _ _ m.contexts (items_of s) span there)

ill_typed_or_large : {source : List ℕ} {r : Refusal} {span : Span} → UsesApart source → IsIllTyped source r → HasLargeType source span → ⊥
ill_typed_or_large {source} {r} {span} apart ill large =
    let m : Meet large.scoped ill.scoped large.decls ill.decls large.table ill.table = meet large.declared ill.declared in
    let there : FirstFault (context_of large.decls large.table) (items_of ill.scoped) (λ e steps. IsTooLarge e steps span) = subst (λ is. FirstFault (context_of large.decls large.table) is (λ e steps. IsTooLarge e steps span)) m.items large.large in
    let uses = apart ill.scoped ill.declared.is_declared in
    refused_or_too_large uses.0 (context_of ill.decls ill.table) (items_of ill.scoped) uses.1 r span ill.refused (first_large_too _ _ m.contexts (items_of ill.scoped) span there)

-- ---- the items of a file all print, or one is left out

prints_or_not : {s : Scoped} {size : ℕ} {item : Item} {first : List (List ℕ)} → ItemPrints s size item first → IsLeftOut s size item → ⊥
prints_or_not (built_in behind_file binds) (prints_none of_file none) = omega arith
prints_or_not (built_in behind_file binds) (binds_other is_behind not) = not binds
prints_or_not (prints of_file printed) (prints_none is_of_file none) = none _ printed
prints_or_not (prints of_file printed) (binds_other behind_file not) = omega arith

all_or_left_out : {s : Scoped} {size : ℕ} {items : List Item} {texts : List (List ℕ)} {span : Span} → PrintTexts s size items texts → LeftOut s size items span → ⊥
all_or_left_out nothing left = elim left [ ]
all_or_left_out (item_and one rest) (here left) = prints_or_not one left
all_or_left_out (item_and one rest) (behind other left) = all_or_left_out rest left

-- ---- the three

-- the items of a source that all print leave none out
print_or_left_out : {source : List ℕ} {s t : Scoped} {texts : List (List ℕ)} {span : Span} → IsScoped source s → IsScoped source t → PrintTexts s (length source) s.program.items texts → LeftOut t (length source) t.program.items span → ⊥
print_or_left_out {source} {s} {t} {texts} {span} one other print left =
    let program = one_program_of one.is_program other.is_program in
    let too = print_too s t program (same_refs one other) (length source) print in
    all_or_left_out (subst (λ p. PrintTexts t (length source) p.items texts) program too) left

pub accepted_or_refused : {source : List ℕ} {texts : List (List ℕ)} {r : Refusal} → UsesApart source → PrintsTexts source texts → IsRefused source r → ⊥
accepted_or_refused {source} {texts} {r} apart accepted refused = by refused.violates
  where
    by : Violates source r → ⊥
    by (lexical fault) = tokens_or_fault accepted.is_typed.declared.is_declared.is_scoped.is_program.are_tokens fault
    by (syntax_error rule none) = program_or_none accepted.is_typed.declared.is_declared.is_scoped.is_program none
    by (misnamed wrong) = scoped_or_misnamed accepted.is_typed.declared.is_declared.is_scoped wrong
    by (ill_declared wrong) = ill_or_declared accepted.is_typed.declared.is_declared wrong
    by (ill_typed wrong) = well_or_ill_typed apart accepted.is_typed wrong
    by (form rule is left) =
        print_or_left_out accepted.is_typed.declared.is_declared.is_scoped is.declared.is_declared.is_scoped accepted.print left

pub accepted_or_over : {source : List ℕ} {texts : List (List ℕ)} {l : Limit} {place : Option Span} → UsesApart source → PrintsTexts source texts → Passes source l place → ⊥
accepted_or_over apart accepted (bytes long) = let short = accepted.short in omega arith
accepted_or_over apart accepted (tokens short many) =
    tokens_or_many accepted.is_typed.declared.is_declared.is_scoped.is_program.are_tokens many
accepted_or_over apart accepted (of_captures short many) =
    scoped_or_many accepted.is_typed.declared.is_declared.is_scoped many
accepted_or_over apart accepted (type_size short large) = well_typed_or_large apart accepted.is_typed large

refused_or_many_tokens : {source : List ℕ} {r : Refusal} → IsRefused source r → IsTooMany source → ⊥
refused_or_many_tokens {source} {r} refused many = by refused.violates
  where
    by : Violates source r → ⊥
    by (lexical fault) = fault_or_many fault many
    by (syntax_error rule none) = tokens_or_many none.are_tokens many
    by (misnamed wrong) = tokens_or_many wrong.is_program.are_tokens many
    by (ill_declared wrong) = tokens_or_many wrong.is_scoped.is_program.are_tokens many
    by (ill_typed wrong) = tokens_or_many wrong.declared.is_declared.is_scoped.is_program.are_tokens many
    by (form rule is left) = tokens_or_many is.declared.is_declared.is_scoped.is_program.are_tokens many

refused_or_many_captures : {source : List ℕ} {r : Refusal} → IsRefused source r → HasManyCaptures source → ⊥
refused_or_many_captures {source} {r} refused many = by refused.violates
  where
    by : Violates source r → ⊥
    by (lexical fault) = tokens_or_fault many.is_program.are_tokens fault
    by (syntax_error rule none) = program_or_none many.is_program none
    by (misnamed wrong) = many_or_misnamed many wrong
    by (ill_declared wrong) = scoped_or_many wrong.is_scoped many
    by (ill_typed wrong) = scoped_or_many wrong.declared.is_declared.is_scoped many
    by (form rule is left) = scoped_or_many is.declared.is_declared.is_scoped many

-- a source in which a type is too large has declarations that violate no rule
refused_or_large : {source : List ℕ} {r : Refusal} {span : Span} → UsesApart source → IsRefused source r → HasLargeType source span → ⊥
refused_or_large {source} {r} {span} apart refused large = by refused.violates
  where
    by : Violates source r → ⊥
    by (lexical fault) = tokens_or_fault large.declared.is_declared.is_scoped.is_program.are_tokens fault
    by (syntax_error rule none) = program_or_none large.declared.is_declared.is_scoped.is_program none
    by (misnamed wrong) = scoped_or_misnamed large.declared.is_declared.is_scoped wrong
    by (ill_declared wrong) = ill_or_declared large.declared.is_declared wrong
    by (ill_typed wrong) = ill_typed_or_large apart wrong large
    by (form rule is left) = well_typed_or_large apart is large

pub refused_or_over : {source : List ℕ} {r : Refusal} {l : Limit} {place : Option Span} → UsesApart source → IsRefused source r → Passes source l place → ⊥
refused_or_over apart refused (bytes long) = let short = refused.short in omega arith
refused_or_over apart refused (tokens short many) = refused_or_many_tokens refused many
refused_or_over apart refused (of_captures short many) = refused_or_many_captures refused many
refused_or_over apart refused (type_size short large) = refused_or_large apart refused large
