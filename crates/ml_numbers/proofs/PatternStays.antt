-- Numbering leaves patterns as they are, but for the numbers.
use Rattle.std.proofs.Common.{◌≡◌, List, map, Option, Some, None, refl, sym, ap, ◌∙◌, subst}
use Rattle.std.specs.Option.{option_map}
use Rattle.ml_numbers.specs.Steps.{Step, node}
use Rattle.ml_numbers.specs.Bare as I
use Rattle.ml_tree.specs.declared.pattern.Pat.{Pat, ind-Pat, fold-roll-Pat, map-Pat, roll-Pat}
use Rattle.ml_tree.specs.declared.pattern.FieldPat.{FieldPat, fold-roll-FieldPat, map-FieldPat, roll-FieldPat}
use Rattle.ml_tree.specs.declared.pattern.PatKind.{PatKind, fold-roll-PatKind, map-PatKind, roll-PatKind}
use Rattle.ml_tree.specs.declared.pattern.PatKind.TheVariants as P
use Rattle.ml_tree.specs.declared.pattern.PatKind.TheOpen as p
use Rattle.ml_tree.specs.declared.pattern.PatKind.TheOpen.{PatKind-F, FieldPat-F, Pat-F}
use Rattle.ml_tree.specs.declared.pattern.ConName.{ConName}
use Rattle.ml_tree.specs.declared.pattern.Param.{Param}
use Rattle.ml_numbers.specs.Numbered.{pattern_step, field_pattern_node, pattern_node, numbered_pattern, numbered_pattern_kind, numbered_field_pattern, numbered_param, numbered_params}
use Rattle.ml_numbers.proofs.Stays.{Stays, stays_done, stays_one, stays_two, stays_behind, stays_each, stays_parts}
use Rattle.ml_numbers.proofs.TypeStays.{type_stays}

abbrev PatKindPart : Type 0
PatKindPart = (x : PatKind) × Stays I.bare_pattern_kind (I.bare_pattern_kind x) (numbered_pattern_kind x)

abbrev FieldPatPart : Type 0
FieldPatPart = (x : FieldPat) × Stays I.bare_field_pattern (I.bare_field_pattern x) (numbered_field_pattern x)

abbrev PatPart : Type 0
PatPart = (x : Pat) × Stays I.bare_pattern (I.bare_pattern x) (numbered_pattern x)

abbrev layer_patkind : PatKind-F PatKindPart FieldPatPart PatPart → PatKind-F PatKind FieldPat Pat
layer_patkind y = map-PatKind PatKindPart FieldPatPart PatPart PatKind FieldPat Pat (λ q. q.0) (λ q. q.0) (λ q. q.0) y

abbrev stepped_patkind : PatKind-F PatKind FieldPat Pat → PatKind-F (Step PatKind) (Step FieldPat) (Step Pat)
stepped_patkind l = map-PatKind PatKind FieldPat Pat (Step PatKind) (Step FieldPat) (Step Pat) numbered_pattern_kind numbered_field_pattern numbered_pattern l

abbrev bared_patkind : PatKind-F PatKind FieldPat Pat → PatKind-F PatKind FieldPat Pat
bared_patkind l = map-PatKind PatKind FieldPat Pat PatKind FieldPat Pat I.bare_pattern_kind I.bare_field_pattern I.bare_pattern l

abbrev layer_fieldpat : FieldPat-F PatKindPart FieldPatPart PatPart → FieldPat-F PatKind FieldPat Pat
layer_fieldpat y = map-FieldPat PatKindPart FieldPatPart PatPart PatKind FieldPat Pat (λ q. q.0) (λ q. q.0) (λ q. q.0) y

abbrev stepped_fieldpat : FieldPat-F PatKind FieldPat Pat → FieldPat-F (Step PatKind) (Step FieldPat) (Step Pat)
stepped_fieldpat l = map-FieldPat PatKind FieldPat Pat (Step PatKind) (Step FieldPat) (Step Pat) numbered_pattern_kind numbered_field_pattern numbered_pattern l

abbrev bared_fieldpat : FieldPat-F PatKind FieldPat Pat → FieldPat-F PatKind FieldPat Pat
bared_fieldpat l = map-FieldPat PatKind FieldPat Pat PatKind FieldPat Pat I.bare_pattern_kind I.bare_field_pattern I.bare_pattern l

abbrev layer_pat : Pat-F PatKindPart FieldPatPart PatPart → Pat-F PatKind FieldPat Pat
layer_pat y = map-Pat PatKindPart FieldPatPart PatPart PatKind FieldPat Pat (λ q. q.0) (λ q. q.0) (λ q. q.0) y

abbrev stepped_pat : Pat-F PatKind FieldPat Pat → Pat-F (Step PatKind) (Step FieldPat) (Step Pat)
stepped_pat l = map-Pat PatKind FieldPat Pat (Step PatKind) (Step FieldPat) (Step Pat) numbered_pattern_kind numbered_field_pattern numbered_pattern l

abbrev bared_pat : Pat-F PatKind FieldPat Pat → Pat-F PatKind FieldPat Pat
bared_pat l = map-Pat PatKind FieldPat Pat PatKind FieldPat Pat I.bare_pattern_kind I.bare_field_pattern I.bare_pattern l

kind_at : (l : PatKind-F PatKind FieldPat Pat) (k : PatKind) → roll-PatKind l ≡ k → I.bare_pattern_kind k ≡ I.pattern_step (bared_patkind l)
kind_at l k e = ap I.bare_pattern_kind (sym e) ∙ fold-roll-PatKind PatKind FieldPat Pat I.pattern_step I.field_pattern_node I.pattern_node l

con_law : (name : ConName) (arg : Option Pat) → I.bare_pattern_kind (P.Con name arg) ≡ roll-PatKind (p.Con name (option_map I.bare_pattern arg))
con_law name None = kind_at (p.Con name None) (P.Con name None) (P.rolls-Con name None)
con_law name (Some x) = kind_at (p.Con name (Some x)) (P.Con name (Some x)) (P.rolls-Con name (Some x))

kind_stays : (y : PatKind-F PatKindPart FieldPatPart PatPart) → Stays I.bare_pattern_kind (I.pattern_step (bared_patkind (layer_patkind y))) (pattern_step (stepped_patkind (layer_patkind y)))
kind_stays p.Any = stays_done I.bare_pattern_kind P.Any _ (kind_at p.Any P.Any P.rolls-Any)
kind_stays (p.Name words span) = stays_done I.bare_pattern_kind (P.Name words span) _ (kind_at (p.Name words span) (P.Name words span) (P.rolls-Name words span))
kind_stays (p.Int z) = stays_done I.bare_pattern_kind (P.Int z) _ (kind_at (p.Int z) (P.Int z) (P.rolls-Int z))
kind_stays (p.Char c) = stays_done I.bare_pattern_kind (P.Char c) _ (kind_at (p.Char c) (P.Char c) (P.rolls-Char c))
kind_stays (p.Text text) = stays_done I.bare_pattern_kind (P.Text text) _ (kind_at (p.Text text) (P.Text text) (P.rolls-Text text))
kind_stays (p.Con name None) = stays_one (option_map I.bare_pattern) I.bare_pattern_kind None _ (P.Con name) (λ arg. roll-PatKind (p.Con name arg)) (con_law name) (stays_done (option_map I.bare_pattern) None None refl)
kind_stays (p.Con name (Some a)) = stays_one (option_map I.bare_pattern) I.bare_pattern_kind _ _ (P.Con name) (λ arg. roll-PatKind (p.Con name arg)) (con_law name) (stays_one I.bare_pattern (option_map I.bare_pattern) _ _ Some Some (λ x. refl) a.1)
kind_stays (p.Cons a b) = stays_two I.bare_pattern I.bare_pattern I.bare_pattern_kind _ _ _ _ P.Cons (λ x y. roll-PatKind (p.Cons x y)) (λ x y. kind_at (p.Cons x y) (P.Cons x y) (P.rolls-Cons x y)) a.1 b.1
kind_stays (p.Or a b) = stays_two I.bare_pattern I.bare_pattern I.bare_pattern_kind _ _ _ _ P.Or (λ x y. roll-PatKind (p.Or x y)) (λ x y. kind_at (p.Or x y) (P.Or x y) (P.rolls-Or x y)) a.1 b.1
kind_stays (p.Tuple ps) = stays_one (map I.bare_pattern) I.bare_pattern_kind _ _ P.Tuple (λ xs. roll-PatKind (p.Tuple xs)) (λ xs. kind_at (p.Tuple xs) (P.Tuple xs) (P.rolls-Tuple xs)) (stays_parts I.bare_pattern numbered_pattern ps)
kind_stays (p.List ps) = stays_one (map I.bare_pattern) I.bare_pattern_kind _ _ P.List (λ xs. roll-PatKind (p.List xs)) (λ xs. kind_at (p.List xs) (P.List xs) (P.rolls-List xs)) (stays_parts I.bare_pattern numbered_pattern ps)
kind_stays (p.Fields ps rest) = stays_one (map I.bare_field_pattern) I.bare_pattern_kind _ _ (λ list. P.Fields list rest) (λ xs. roll-PatKind (p.Fields xs rest)) (λ xs. kind_at (p.Fields xs rest) (P.Fields xs rest) (P.rolls-Fields xs rest)) (stays_parts I.bare_field_pattern numbered_field_pattern ps)
kind_stays (p.Named q name) = stays_one I.bare_pattern I.bare_pattern_kind _ _ (λ inner. P.Named inner name) (λ x. roll-PatKind (p.Named x name)) (λ x. kind_at (p.Named x name) (P.Named x name) (P.rolls-Named x name)) q.1
kind_stays (p.Typed q ty) = stays_two I.bare_pattern I.bare_type I.bare_pattern_kind _ _ _ _ P.Typed P.Typed (λ x y. kind_at (p.Typed x y) (P.Typed x y) (P.rolls-Typed x y)) q.1 (type_stays ty)
kind_stays (p.Paren q) = stays_one I.bare_pattern I.bare_pattern_kind _ _ P.Paren (λ x. roll-PatKind (p.Paren x)) (λ x. kind_at (p.Paren x) (P.Paren x) (P.rolls-Paren x)) q.1

kind_case : (l : PatKind-F PatKind FieldPat Pat) (y : PatKind-F PatKindPart FieldPatPart PatPart) → layer_patkind y ≡ l → Stays I.bare_pattern_kind (I.bare_pattern_kind (roll-PatKind l)) (numbered_pattern_kind (roll-PatKind l))
kind_case l y same = subst (λ s. Stays I.bare_pattern_kind (I.bare_pattern_kind (roll-PatKind l)) s) (sym (fold-roll-PatKind (Step PatKind) (Step FieldPat) (Step Pat) pattern_step field_pattern_node pattern_node l)) (subst (λ v. Stays I.bare_pattern_kind v (pattern_step (stepped_patkind l))) (sym (fold-roll-PatKind PatKind FieldPat Pat I.pattern_step I.field_pattern_node I.pattern_node l)) (subst (λ l. Stays I.bare_pattern_kind (I.pattern_step (bared_patkind l)) (pattern_step (stepped_patkind l))) same (kind_stays y)))

fieldpat_case : (l : FieldPat-F PatKind FieldPat Pat) (y : FieldPat-F PatKindPart FieldPatPart PatPart) → layer_fieldpat y ≡ l → Stays I.bare_field_pattern (I.bare_field_pattern (roll-FieldPat l)) (numbered_field_pattern (roll-FieldPat l))
fieldpat_case l y same = subst (λ s. Stays I.bare_field_pattern (I.bare_field_pattern (roll-FieldPat l)) s) (sym (fold-roll-FieldPat (Step PatKind) (Step FieldPat) (Step Pat) pattern_step field_pattern_node pattern_node l)) (subst (λ v. Stays I.bare_field_pattern v (field_pattern_node (stepped_fieldpat l))) (sym (fold-roll-FieldPat PatKind FieldPat Pat I.pattern_step I.field_pattern_node I.pattern_node l)) (subst (λ l. Stays I.bare_field_pattern (I.field_pattern_node (bared_fieldpat l)) (field_pattern_node (stepped_fieldpat l))) same (stays_behind I.bare_pattern I.bare_field_pattern _ node _ (λ id pat. roll-FieldPat (record { id = id; name = y.name; pat = pat })) (λ pat. roll-FieldPat (record { id = 0; name = y.name; pat = pat })) (λ i x. fold-roll-FieldPat PatKind FieldPat Pat I.pattern_step I.field_pattern_node I.pattern_node (record { id = i; name = y.name; pat = x })) y.pat.1)))

pat_case : (l : Pat-F PatKind FieldPat Pat) (y : Pat-F PatKindPart FieldPatPart PatPart) → layer_pat y ≡ l → Stays I.bare_pattern (I.bare_pattern (roll-Pat l)) (numbered_pattern (roll-Pat l))
pat_case l y same = subst (λ s. Stays I.bare_pattern (I.bare_pattern (roll-Pat l)) s) (sym (fold-roll-Pat (Step PatKind) (Step FieldPat) (Step Pat) pattern_step field_pattern_node pattern_node l)) (subst (λ v. Stays I.bare_pattern v (pattern_node (stepped_pat l))) (sym (fold-roll-Pat PatKind FieldPat Pat I.pattern_step I.field_pattern_node I.pattern_node l)) (subst (λ l. Stays I.bare_pattern (I.pattern_node (bared_pat l)) (pattern_node (stepped_pat l))) same (stays_behind I.bare_pattern_kind I.bare_pattern _ node _ (λ id kind. roll-Pat (record { id = id; span = y.span; kind = kind })) (λ kind. roll-Pat (record { id = 0; span = y.span; kind = kind })) (λ i x. fold-roll-Pat PatKind FieldPat Pat I.pattern_step I.field_pattern_node I.pattern_node (record { id = i; span = y.span; kind = x })) y.kind.1)))

pub pattern_stays : (q : Pat) → Stays I.bare_pattern (I.bare_pattern q) (numbered_pattern q)
pattern_stays q = ind-Pat (λ x. Stays I.bare_pattern_kind (I.bare_pattern_kind x) (numbered_pattern_kind x)) (λ x. Stays I.bare_field_pattern (I.bare_field_pattern x) (numbered_field_pattern x)) (λ x. Stays I.bare_pattern (I.bare_pattern x) (numbered_pattern x)) kind_case fieldpat_case pat_case q

param_stays : (q : Param) → Stays I.bare_param (I.bare_param q) (numbered_param q)
param_stays q = stays_one I.bare_pattern I.bare_param _ _ (λ pat. record { words = q.words; pat = pat }) (λ pat. record { words = q.words; pat = pat }) (λ x. refl) (pattern_stays q.pat)

pub params_stay : (qs : List Param) → Stays (map I.bare_param) (map I.bare_param qs) (numbered_params qs)
params_stay qs = stays_each I.bare_param numbered_param param_stays qs
