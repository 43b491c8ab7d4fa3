-- The spans of whole patterns, expressions, items and programs.
use Rattle.std.proofs.Common.{◌≡◌, ℕ, ◌+◌, ◌-◌, ◌<◌, ◌≤◌, List, [], ◌∷◌, drop, length, refl, sym, ap, ◌∙◌, subst, arith}
use Rattle.std.specs.Prelude.{map}
use Rattle.std.specs.List.{All}
use Rattle.std.proofs.lemmas.List.{length-drop as left, drop_all}
use Rattle.oxml_base.specs.declared.span.Span.{Span}
use Rattle.ml_lexer.specs.declared.token.Token.{Token}
use Rattle.ml_cursor.specs.Places.{span, first_span, extent}
use Rattle.ml_tree.specs.declared.pattern.Pat.{Pat}
use Rattle.ml_tree.specs.declared.pattern.Param.{Param}
use Rattle.ml_tree.specs.declared.types.Decl.{Decl}
use Rattle.ml_tree.specs.declared.expr.Expr.{Expr, out-Expr}
use Rattle.ml_tree.specs.declared.program.Item.{Item}
use Rattle.ml_tree.specs.declared.program.Program.{Program}
use Rattle.ml_parse_types.proofs.Shorter.{length-drop, decls_rest}
use Rattle.ml_parse_patterns.specs.declared.looks.Level.{Level}
use Rattle.ml_parse_patterns.specs.Patterns.{Reads as ReadsLevel, ReadsParams}
use Rattle.ml_parse_patterns.proofs.Shorter.{shorter as pattern_shorter, params_shorter}
use Rattle.ml_grammar.specs.declared.looks.ItemLead.{ItemLead}
use Rattle.ml_grammar.specs.Looks.{behind_rec}
use Rattle.ml_grammar.specs.Trees.{end_behind, end_of_bind}
use Rattle.ml_grammar.specs.Grammar.{Part, Reads}
use Rattle.ml_grammar.specs.Programs.{AnItemBy, a_let_item, a_types_item, ItemsBy, no_item, between, let_first, types_first, Derives}
use Rattle.ml_grammar.proofs.Shorter.{list_shorter, rec_rest}
use Rattle.ml_parse_types.specs.Types.{got}
use Rattle.ml_parse_types.specs.Decls.{ReadsDecls}
use Rattle.tree_laws.proofs.spans.BareEdges.{edges_stay}
use Rattle.tree_laws.specs.Spans.{decl_edges, Edges, none, both, all, Edge, Nests, Stand, no_item as no_edges, one_item, pattern_edges, param_edges, expr_edges, bind_edges, root_edges, item_edges}
use Rattle.tree_laws.specs.Spans as S
use Rattle.tree_laws.proofs.spans.Behind.{Behind, behind_less, count_is, same, dropped, one, then, rec_word, drop_drop}
use Rattle.tree_laws.proofs.spans.TypesBehind.{decls_behind}
use Rattle.tree_laws.proofs.spans.PartsBehind.{list_behind}
use Rattle.tree_laws.proofs.spans.Fits.{Fits, extent_holds, widened, fits_node, fits_extent}
use Rattle.tree_laws.proofs.spans.DeclFits.{decls_fit}
use Rattle.tree_laws.proofs.spans.PatternFits.{pattern_fits, params_fit}
use Rattle.tree_laws.proofs.spans.Placed.{Placed, Lies}
use Rattle.tree_laws.proofs.spans.PartFits.{part, list_placed}

pub pattern_nests : {text : List ℕ} {level : Level} {ts r : List Token} {p : Pat} {d : ℕ} → ReadsLevel text level ts p d r → All (Nests ts (length ts - length r)) (pattern_edges p (extent ts r))
pattern_nests {ts = ts} {r = r} {p = p} x =
    let h : Fits ts (length r) (length ts) (length r + 1) (pattern_edges p) = pattern_fits x same in h.by (extent ts r) (extent_holds ts r (pattern_shorter x))

pub params_nest : {text : List ℕ} {ts r : List Token} {ps : List Param} {d : ℕ} → ReadsParams text ts ps d r → All (Nests ts (length ts - length r)) (all (map param_edges ps) (extent ts r))
params_nest {ts = ts} {r = r} {ps = ps} x =
    let h : Fits ts (length r) (length ts) (length r + 1) (all (map param_edges ps)) = params_fit x same in h.by (extent ts r) (extent_holds ts r (params_shorter x))

pub part_nests : {text : List ℕ} {p : Part} {ts r : List Token} {e : Expr} {d : ℕ} → Reads text p ts e d r → All (Nests ts (length ts - length r)) (root_edges e)
part_nests {ts = ts} {r = r} {e = e} x =
    let h : Placed ts (length r) ts r e = part (length r) x same in
    h.fits.by (out-Expr e).span (record {
      first = ts;
      last = h.last;
      first_behind = same;
      last_behind = h.last_behind;
      early = omega arith;
      late = omega arith;
      above = h.after;
      starts = h.starts;
      ends = h.ends;
    })

-- the edges of a node to itself and of its parts
root_nests : {ts last : List Token} {parts : Edges} (r : List Token) (s : Span) → Behind ts last → s.start ≡ (first_span ts).start → s.end ≡ (first_span last).end → length r < length last → Fits ts (length r) (length ts) (length last) parts → All (Nests ts (length ts - length r)) (S.node s parts s)
root_nests {ts} {last} {parts} r s b p q lt h =
    let g : Fits ts (length r) (length ts) (length last) (S.node s parts) = fits_node same b p q (behind_less b) h in
    g.by s (record {
      first = ts;
      last = last;
      first_behind = same;
      last_behind = b;
      early = omega arith;
      late = omega arith;
      above = lt;
      starts = p;
      ends = q;
    })

types_less : (ts r : List Token) {ds : List Decl} → ReadsDecls (drop 1 ts) (got ds r) → length r < length ts
types_less ts r x = let h = decls_rest _ _ x in let i = length-drop 1 ts in omega arith

pub item_nests : {text : List ℕ} {l : ItemLead} {ts r : List Token} {i : Item} {d : ℕ} → AnItemBy text l ts i d r → All (Nests ts (length ts - length r)) (item_edges i)
item_nests (a_let_item {ts = ts} {rest = rest} {bs = bs} x) =
    let b : Behind ts (behind_rec (drop 1 ts)) = then one (rec_word (drop 1 ts)) in
    let h : Lies ts (length rest) (behind_rec (drop 1 ts)) rest (end_behind end_of_bind 0 bs) (all (map bind_edges bs)) = list_placed (length rest) x b in
    root_nests rest (span (first_span ts).start (end_behind end_of_bind 0 bs)) h.last_behind refl h.ends h.after (widened h.fits (behind_less b) (omega arith))
item_nests (a_types_item {ts = ts} {rest = rest} {ds = ds} x) =
    let g : Fits ts (length rest) (length (drop 1 ts)) (length rest + 1) (all (map decl_edges ds)) = decls_fit x (dropped 1 ts) in
    let h : Fits ts (length rest) (length ts) (length rest + 1) (S.node (extent ts rest) (all (map decl_edges ds))) = fits_extent rest same (types_less ts rest x) (widened g (length-drop 1 ts) (omega arith)) in
    h.by (extent ts rest) (extent_holds ts rest (types_less ts rest x))

item_behind : {text : List ℕ} {l : ItemLead} {ts r : List Token} {i : Item} {d : ℕ} → AnItemBy text l ts i d r → Behind ts r
item_behind (a_let_item {ts = ts} x) = then one (then (rec_word (drop 1 ts)) (list_behind x))
item_behind (a_types_item x) = then one (decls_behind x)

item_less : {text : List ℕ} {l : ItemLead} {ts r : List Token} {i : Item} {d : ℕ} → AnItemBy text l ts i d r → length r < length ts
item_less (a_let_item {ts = ts} x) = let h = list_shorter x in let i = rec_rest (drop 1 ts) in let j = length-drop 1 ts in omega arith
item_less (a_types_item {ts = ts} {rest = rest} x) = types_less ts rest x

-- what is behind some tokens, by how many
exactly : {ts us : List Token} → Behind ts us → us ≡ drop (length ts - length us) ts
exactly {ts = ts} {us = []} a = sym (drop_all (length ts - 0) ts (omega arith))
exactly {ts = ts} {us = u ∷ us} a =
    let c = count_is a (omega arith) in
    let e : a.count ≡ length ts - length (u ∷ us) = omega (arith, c) in
    a.is ∙ ap (λ n. drop n ts) e

sooner : {tokens : List Token} {from later : ℕ} {edges : List (List Edge)} → from ≤ later → Stand tokens later edges → Stand tokens from edges
sooner le no_edges = no_edges
sooner le (one_item {first = first} p q r h s) = one_item (let g : _ ≤ first = omega (arith, le, p) in g) q r h s

stands : {tokens ts us : List Token} {edges : List Edge} {others : List (List Edge)} (k : ℕ) → ts ≡ drop k tokens → Behind ts us → length us < length ts → All (Nests ts (length ts - length us)) edges → (us ≡ drop (k + (length ts - length us)) tokens → Stand tokens (k + (length ts - length us)) others) → Stand tokens k (edges ∷ others)
stands {tokens} {ts} {us} {edges} {others} k e b lt h s =
    let l = ap length e in let m = left k tokens in
    let at : us ≡ drop (k + (length ts - length us)) tokens = exactly b ∙ (ap (drop (length ts - length us)) e ∙ drop_drop k (length ts - length us) tokens) in
    let c : length ts - length us ≡ k + (length ts - length us) - k = omega arith in
    one_item (omega arith) (omega (arith, lt)) (omega (arith, l, m, lt))
    (subst (λ n. All (Nests (drop k tokens) n) edges) c (subst (λ vs. All (Nests vs (length ts - length us)) edges) e h)) (s at)

items_stand : {text : List ℕ} {l : ItemLead} {tokens ts : List Token} {is : List Item} {d : ℕ} (k : ℕ) → ts ≡ drop k tokens → ItemsBy text l ts is d → Stand tokens k (map item_edges is)
items_stand k e no_item = no_edges
items_stand {tokens = tokens} k e (between x) = sooner (let g : k ≤ k + 1 = omega arith in g) (items_stand (k + 1) (ap (drop 1) e ∙ drop_drop k 1 tokens) x)
items_stand k e (let_first {ts = ts} {us = us} x y) = stands k e (item_behind x) (item_less x) (item_nests x) (λ at. items_stand (k + (length ts - length us)) at y)
items_stand k e (types_first {ts = ts} {us = us} x y) = stands k e (item_behind x) (item_less x) (item_nests x) (λ at. items_stand (k + (length ts - length us)) at y)

pub program_stands : {text : List ℕ} {tokens : List Token} {p : Program} → Derives text tokens p → Stand tokens 0 (map item_edges p.items)
program_stands {tokens = tokens} d =
    subst (λ (p : Program). Stand tokens 0 (map item_edges p.items)) (sym d.program_is)
    (subst (Stand tokens 0) (sym (edges_stay d.items)) (items_stand 0 refl d.reads))
