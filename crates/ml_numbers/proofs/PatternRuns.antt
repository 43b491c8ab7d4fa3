-- The numbers of patterns.
use Rattle.std.proofs.Common.{◌≡◌, List, Option, Some, None, refl, sym, ap, ◌∙◌, subst}
use Rattle.ml_numbers.specs.Steps.{Step, node}
use Rattle.ml_numbers.specs.Ids.{Ids, no_ids, node_id, type_id, joined, all}
use Rattle.ml_numbers.specs.Ids as I
use Rattle.ml_tree.specs.declared.pattern.Pat.{Pat, ind-Pat, fold-roll-Pat, map-Pat, roll-Pat}
use Rattle.ml_tree.specs.declared.pattern.FieldPat.{FieldPat, fold-roll-FieldPat, map-FieldPat, roll-FieldPat}
use Rattle.ml_tree.specs.declared.pattern.PatKind.{PatKind, fold-roll-PatKind, map-PatKind, roll-PatKind}
use Rattle.ml_tree.specs.declared.pattern.PatKind.TheVariants as P
use Rattle.ml_tree.specs.declared.pattern.PatKind.TheOpen as p
use Rattle.ml_tree.specs.declared.pattern.PatKind.TheOpen.{PatKind-F, FieldPat-F, Pat-F}
use Rattle.ml_tree.specs.declared.pattern.ConName.{ConName}
use Rattle.ml_tree.specs.declared.pattern.Param.{Param}
use Rattle.ml_numbers.specs.Numbered.{pattern_step, field_pattern_node, pattern_node, numbered_pattern, numbered_pattern_kind, numbered_field_pattern, numbered_param, numbered_params}
use Rattle.ml_numbers.proofs.Runs.{Numbers, list_of, maybe_of, numbers_node, numbers_done, numbers_one, numbers_two, numbers_each, numbers_parts}
use Rattle.ml_numbers.proofs.TypeRuns.{type_numbers}

abbrev PatKindPart : Type 0
PatKindPart = (x : PatKind) × Numbers I.pattern_kind_ids (numbered_pattern_kind x)

abbrev FieldPatPart : Type 0
FieldPatPart = (x : FieldPat) × Numbers I.field_pattern_ids (numbered_field_pattern x)

abbrev PatPart : Type 0
PatPart = (x : Pat) × Numbers I.pattern_ids (numbered_pattern x)

abbrev layer_patkind : PatKind-F PatKindPart FieldPatPart PatPart → PatKind-F PatKind FieldPat Pat
layer_patkind y = map-PatKind PatKindPart FieldPatPart PatPart PatKind FieldPat Pat (λ q. q.0) (λ q. q.0) (λ q. q.0) y

abbrev stepped_patkind : PatKind-F PatKind FieldPat Pat → PatKind-F (Step PatKind) (Step FieldPat) (Step Pat)
stepped_patkind l = map-PatKind PatKind FieldPat Pat (Step PatKind) (Step FieldPat) (Step Pat) numbered_pattern_kind numbered_field_pattern numbered_pattern l

abbrev layer_fieldpat : FieldPat-F PatKindPart FieldPatPart PatPart → FieldPat-F PatKind FieldPat Pat
layer_fieldpat y = map-FieldPat PatKindPart FieldPatPart PatPart PatKind FieldPat Pat (λ q. q.0) (λ q. q.0) (λ q. q.0) y

abbrev stepped_fieldpat : FieldPat-F PatKind FieldPat Pat → FieldPat-F (Step PatKind) (Step FieldPat) (Step Pat)
stepped_fieldpat l = map-FieldPat PatKind FieldPat Pat (Step PatKind) (Step FieldPat) (Step Pat) numbered_pattern_kind numbered_field_pattern numbered_pattern l

abbrev layer_pat : Pat-F PatKindPart FieldPatPart PatPart → Pat-F PatKind FieldPat Pat
layer_pat y = map-Pat PatKindPart FieldPatPart PatPart PatKind FieldPat Pat (λ q. q.0) (λ q. q.0) (λ q. q.0) y

abbrev stepped_pat : Pat-F PatKind FieldPat Pat → Pat-F (Step PatKind) (Step FieldPat) (Step Pat)
stepped_pat l = map-Pat PatKind FieldPat Pat (Step PatKind) (Step FieldPat) (Step Pat) numbered_pattern_kind numbered_field_pattern numbered_pattern l

kind_at : (l : PatKind-F PatKind FieldPat Pat) (k : PatKind) → roll-PatKind l ≡ k → I.pattern_kind_ids k ≡ I.pattern_step (map-PatKind PatKind FieldPat Pat Ids Ids Ids I.pattern_kind_ids I.field_pattern_ids I.pattern_ids l)
kind_at l k e = ap I.pattern_kind_ids (sym e) ∙ fold-roll-PatKind Ids Ids Ids I.pattern_step I.field_pattern_node I.pattern_node l

con_law : (name : ConName) (arg : Option Pat) → I.pattern_kind_ids (P.Con name arg) ≡ maybe_of I.pattern_ids arg
con_law name None = kind_at (p.Con name None) (P.Con name None) (P.rolls-Con name None)
con_law name (Some x) = kind_at (p.Con name (Some x)) (P.Con name (Some x)) (P.rolls-Con name (Some x))

kind_numbers : (y : PatKind-F PatKindPart FieldPatPart PatPart) → Numbers I.pattern_kind_ids (pattern_step (stepped_patkind (layer_patkind y)))
kind_numbers p.Any = numbers_done I.pattern_kind_ids P.Any (kind_at p.Any P.Any P.rolls-Any)
kind_numbers (p.Name words span) = numbers_done I.pattern_kind_ids (P.Name words span) (kind_at (p.Name words span) (P.Name words span) (P.rolls-Name words span))
kind_numbers (p.Int z) = numbers_done I.pattern_kind_ids (P.Int z) (kind_at (p.Int z) (P.Int z) (P.rolls-Int z))
kind_numbers (p.Char c) = numbers_done I.pattern_kind_ids (P.Char c) (kind_at (p.Char c) (P.Char c) (P.rolls-Char c))
kind_numbers (p.Text text) = numbers_done I.pattern_kind_ids (P.Text text) (kind_at (p.Text text) (P.Text text) (P.rolls-Text text))
kind_numbers (p.Con name None) = numbers_one (maybe_of I.pattern_ids) I.pattern_kind_ids _ (P.Con name) (con_law name) (numbers_done (maybe_of I.pattern_ids) None refl)
kind_numbers (p.Con name (Some a)) = numbers_one (maybe_of I.pattern_ids) I.pattern_kind_ids _ (P.Con name) (con_law name) (numbers_one I.pattern_ids (maybe_of I.pattern_ids) _ Some (λ x. refl) a.1)
kind_numbers (p.Cons a b) = numbers_two I.pattern_ids I.pattern_ids I.pattern_kind_ids _ _ P.Cons (λ x y. kind_at (p.Cons x y) (P.Cons x y) (P.rolls-Cons x y)) a.1 b.1
kind_numbers (p.Or a b) = numbers_two I.pattern_ids I.pattern_ids I.pattern_kind_ids _ _ P.Or (λ x y. kind_at (p.Or x y) (P.Or x y) (P.rolls-Or x y)) a.1 b.1
kind_numbers (p.Tuple ps) = numbers_one (list_of I.pattern_ids) I.pattern_kind_ids _ P.Tuple (λ xs. kind_at (p.Tuple xs) (P.Tuple xs) (P.rolls-Tuple xs)) (numbers_parts I.pattern_ids numbered_pattern ps)
kind_numbers (p.List ps) = numbers_one (list_of I.pattern_ids) I.pattern_kind_ids _ P.List (λ xs. kind_at (p.List xs) (P.List xs) (P.rolls-List xs)) (numbers_parts I.pattern_ids numbered_pattern ps)
kind_numbers (p.Fields ps rest) = numbers_one (list_of I.field_pattern_ids) I.pattern_kind_ids _ (λ list. P.Fields list rest) (λ xs. kind_at (p.Fields xs rest) (P.Fields xs rest) (P.rolls-Fields xs rest)) (numbers_parts I.field_pattern_ids numbered_field_pattern ps)
kind_numbers (p.Named q name) = numbers_one I.pattern_ids I.pattern_kind_ids _ (λ inner. P.Named inner name) (λ x. kind_at (p.Named x name) (P.Named x name) (P.rolls-Named x name)) q.1
kind_numbers (p.Typed q ty) = numbers_two I.pattern_ids I.type_ids I.pattern_kind_ids _ _ P.Typed (λ x y. kind_at (p.Typed x y) (P.Typed x y) (P.rolls-Typed x y)) q.1 (type_numbers ty)
kind_numbers (p.Paren q) = numbers_one I.pattern_ids I.pattern_kind_ids _ P.Paren (λ x. kind_at (p.Paren x) (P.Paren x) (P.rolls-Paren x)) q.1

kind_case : (l : PatKind-F PatKind FieldPat Pat) (y : PatKind-F PatKindPart FieldPatPart PatPart) → layer_patkind y ≡ l → Numbers I.pattern_kind_ids (numbered_pattern_kind (roll-PatKind l))
kind_case l y same = subst (Numbers I.pattern_kind_ids) (sym (fold-roll-PatKind (Step PatKind) (Step FieldPat) (Step Pat) pattern_step field_pattern_node pattern_node l)) (subst (λ l. Numbers I.pattern_kind_ids (pattern_step (stepped_patkind l))) same (kind_numbers y))

fieldpat_case : (l : FieldPat-F PatKind FieldPat Pat) (y : FieldPat-F PatKindPart FieldPatPart PatPart) → layer_fieldpat y ≡ l → Numbers I.field_pattern_ids (numbered_field_pattern (roll-FieldPat l))
fieldpat_case l y same = subst (Numbers I.field_pattern_ids) (sym (fold-roll-FieldPat (Step PatKind) (Step FieldPat) (Step Pat) pattern_step field_pattern_node pattern_node l)) (subst (λ l. Numbers I.field_pattern_ids (field_pattern_node (stepped_fieldpat l))) same (numbers_two I.node_id I.pattern_ids I.field_pattern_ids node _ (λ id pat. roll-FieldPat (record { id = id; name = y.name; pat = pat })) (λ i x. fold-roll-FieldPat Ids Ids Ids I.pattern_step I.field_pattern_node I.pattern_node (record { id = i; name = y.name; pat = x })) numbers_node y.pat.1))

pat_case : (l : Pat-F PatKind FieldPat Pat) (y : Pat-F PatKindPart FieldPatPart PatPart) → layer_pat y ≡ l → Numbers I.pattern_ids (numbered_pattern (roll-Pat l))
pat_case l y same = subst (Numbers I.pattern_ids) (sym (fold-roll-Pat (Step PatKind) (Step FieldPat) (Step Pat) pattern_step field_pattern_node pattern_node l)) (subst (λ l. Numbers I.pattern_ids (pattern_node (stepped_pat l))) same (numbers_two I.node_id I.pattern_kind_ids I.pattern_ids node _ (λ id kind. roll-Pat (record { id = id; span = y.span; kind = kind })) (λ i x. fold-roll-Pat Ids Ids Ids I.pattern_step I.field_pattern_node I.pattern_node (record { id = i; span = y.span; kind = x })) numbers_node y.kind.1))

pub pattern_numbers : (q : Pat) → Numbers I.pattern_ids (numbered_pattern q)
pattern_numbers q = ind-Pat (λ x. Numbers I.pattern_kind_ids (numbered_pattern_kind x)) (λ x. Numbers I.field_pattern_ids (numbered_field_pattern x)) (λ x. Numbers I.pattern_ids (numbered_pattern x)) kind_case fieldpat_case pat_case q

pub param_numbers : (q : Param) → Numbers I.param_ids (numbered_param q)
param_numbers q = numbers_one I.pattern_ids I.param_ids _ (λ pat. record { words = q.words; pat = pat }) (λ x. refl) (pattern_numbers q.pat)

pub params_numbers : (qs : List Param) → Numbers (list_of I.param_ids) (numbered_params qs)
params_numbers qs = numbers_each I.param_ids numbered_param param_numbers qs
