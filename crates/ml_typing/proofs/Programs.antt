-- Of one program the answers exclude each other, whichever principal typings its items have.
use Rattle.std.proofs.Common.{◌≡◌, ℕ, Bool, true, false, cond, List, [], ◌∷◌, ◌++◌, Option, Some, None, refl, sym, ap, ◌∙◌, subst}
use Rattle.oxml_base.specs.declared.span.Span.{Span}
use Rattle.ml_types.specs.Types.{Tree, Leaf, Node, Trees, Nil, Cons}
use Rattle.ml_typing.specs.declared.equation.Unknown.{Unknown}
use Rattle.ml_typing.specs.declared.equation.Unknown.TheVariants as u
use Rattle.ml_typing.specs.declared.equation.Step.{Step}
use Rattle.ml_typing.specs.Terms.{Context}
use Rattle.ml_typing.specs.Typing.{Assignment, Satisfies, pairs, at_types, all_at_types, Occurs, IsInstance, IsPrincipal, ItemSteps, is_among, behind, behind_all}
use Rattle.ml_typing.specs.Refusals.{Fits, IsUnsolved, IsTooLarge, HasTypes, FirstFault}
use Rattle.ml_typing.specs.Laws.{is_own, StepsApart, IsApart, ItemsApart}
use Rattle.ml_typing.proofs.Faults.{fit_or_unsolved, fit_or_large, unsolved_once, large_once, unsolved_or_large}
use Rattle.ml_typing.proofs.Renamed.{IsAt, SameScheme, IsAlike, alike_back}
use Rattle.ml_typing.proofs.Alike.{moved, solves_too, steps_same, fits_too, unsolved_too, large_too, moved_same}

trees_same : (s r : Tree) (ss rs : Trees) → s ≡ r → ss ≡ rs → Cons s ss ≡ Cons r rs
trees_same s r ss rs p q = cc

-- the schemes of two principal typings are each the other at other types of its variables
scheme_case : (x : Bool) (p q : Tree) (o r : Option Tree) → (x ≡ true → IsAt p q × IsAt q p) → SameScheme o r → SameScheme (cond x (Some p) o) (cond x (Some q) r)
scheme_case true p q o r h k = h refl
scheme_case false p q o r h k = k

pub instance_of : (uses : ℕ → Option ℕ) (c d : Context) (there : IsAlike c d) (item : ItemSteps) (a b : Assignment) → StepsApart uses item.steps → Satisfies a (pairs c item.steps) → IsPrincipal (pairs d item.steps) b → (v : Unknown) → is_own uses v ≡ true → Occurs v (pairs d item.steps) → IsAt (a v) (b v)
instance_of uses c d there item a b h solves principal v own occurs =
    let i : IsInstance b (moved uses c d there a) (pairs d item.steps) = principal.instances (moved uses c d there a) (solves_too uses c d there a _ _ (steps_same uses c d there item.steps h) solves) in
    (i.types, sym (moved_same uses c d there a v own) ∙ i.each v occurs)

pub behind_alike : (uses : ℕ → Option ℕ) (c d : Context) → IsAlike c d → (item : ItemSteps) (a b : Assignment) → IsApart uses item → IsPrincipal (pairs c item.steps) a → IsPrincipal (pairs d item.steps) b → IsAlike (behind c a item.binders) (behind d b item.binders)
behind_alike uses c d alike item a b h p q = record {
  decls = alike.decls;
  declared = alike.declared;
  operation = alike.operation;
  scheme = λ n. scheme_case (is_among item.binders n) (a (u.Binder n)) (b (u.Binder n)) (c.scheme n) (d.scheme n)
      (λ e. (instance_of uses c d alike item a b h.steps p.typing q (u.Binder n) refl (h.binders d n e), instance_of uses d c (alike_back c d alike) item b a h.steps q.typing p (u.Binder n) refl (h.binders c n e)))
      (alike.scheme n);
}

-- a context is alike itself
mutual
  itself : (w : Tree) → w ≡ at_types (λ n. Leaf n) w
  itself (Leaf n) = refl
  itself (Node h ts) = ap (Node h) (all_itself ts)

  all_itself : (ws : Trees) → ws ≡ all_at_types (λ n. Leaf n) ws
  all_itself Nil = refl
  all_itself (Cons w ws) = trees_same _ _ _ _ (itself w) (all_itself ws)

same_self : (o : Option Tree) → SameScheme o o
same_self None = tt
same_self (Some w) = (((λ n. Leaf n), itself w), ((λ n. Leaf n), itself w))

pub alike_self : (c : Context) → IsAlike c c
alike_self c = record { decls = refl; declared = refl; operation = refl; scheme = λ b. same_self (c.scheme b) }

-- what is said of the steps of an item, in alike contexts the same, and not where they fit
pub record IsFault (uses : ℕ → Option ℕ) (P : Context → List Step → Type 0) : Type 0 where
  pub moves : (c d : Context) → IsAlike c d → IsAlike d c → (ss : List Step) → StepsApart uses ss → P c ss → P d ss
  pub unfit : (c : Context) (ss : List Step) → Fits c ss → P c ss → ⊥

pub unsolved_fault : (uses : ℕ → Option ℕ) (rule : ℕ) (span : Span) → IsFault uses (λ e ss. IsUnsolved e ss rule span)
unsolved_fault uses rule span = record {
  moves = λ c d there here ss h f. unsolved_too uses c d there here ss rule span h f;
  unfit = λ c ss fits f. fit_or_unsolved c ss rule span fits f;
}

pub large_fault : (uses : ℕ → Option ℕ) (span : Span) → IsFault uses (λ e ss. IsTooLarge e ss span)
large_fault uses span = record {
  moves = λ c d there here ss h f. large_too uses c d there here ss span h f;
  unfit = λ c ss fits f. fit_or_large c ss span fits f;
}

first_fits : (c : Context) (i : ItemSteps) (is : List ItemSteps) (a : Assignment) (types : List Assignment) → HasTypes c (i ∷ is) (a ∷ types) → Fits c i.steps
first_fits c i is a types h = (a, h.typed.0.typing, h.small.0)

pub rest_typed : (c : Context) (i : ItemSteps) (is : List ItemSteps) (a : Assignment) (types : List Assignment) → HasTypes c (i ∷ is) (a ∷ types) → HasTypes (behind c a i.binders) is types
rest_typed c i is a types h = record { typed = h.typed.1; small = h.small.1 }

-- what two first faults have in common: the items before theirs, and one context and item of both
pub record Meeting (P Q : Context → List Step → Type 0) (before others : List ItemSteps) (item other : ItemSteps) : Type 0 where
  pub items : before ≡ others
  pub item_is : item ≡ other
  pub context : Context
  pub one : P context item.steps
  pub two : Q context item.steps

items_same : (i j : ItemSteps) (is js : List ItemSteps) → i ≡ j → is ≡ js → i ∷ is ≡ j ∷ js
items_same i j is js p q = cc

module _ (uses : ℕ → Option ℕ) (P : Context → List Step → Type 0) (fault : IsFault uses P) where
  -- items with types have no fault
  pub no_fault : (c d : Context) → IsAlike c d → (before : List ItemSteps) (others : List Assignment) (item : ItemSteps) (after : List ItemSteps) (types : List Assignment) → ItemsApart uses (before ++ item ∷ after) → HasTypes c (before ++ item ∷ after) types → HasTypes d before others → P (behind_all d others before) item.steps → ⊥
  no_fault c d alike [] [] item after [] h k m f = absurd k.typed
  no_fault c d alike [] [] item after (a ∷ types) h k m f =
      fault.unfit d item.steps (fits_too uses c d alike item.steps h.0.steps (first_fits c item after a types k)) f
  no_fault c d alike [] (b ∷ others) item after types h k m f = absurd m.typed
  no_fault c d alike (i ∷ before) [] item after types h k m f = absurd m.typed
  no_fault c d alike (i ∷ before) (b ∷ others) item after [] h k m f = absurd k.typed
  no_fault c d alike (i ∷ before) (b ∷ others) item after (a ∷ types) h k m f =
      no_fault (behind c a i.binders) (behind d b i.binders) (behind_alike uses c d alike i a b h.0 k.typed.0 m.typed.0) before others item after types h.1
      (rest_typed c i (before ++ item ∷ after) a types k) (rest_typed d i before b others m) f

  pub meet : (Q : Context → List Step → Type 0) → IsFault uses Q → (c d : Context) → IsAlike c d → (before others : List ItemSteps) (types kinds : List Assignment) (item other : ItemSteps) (after rest : List ItemSteps) → before ++ item ∷ after ≡ others ++ other ∷ rest → ItemsApart uses (before ++ item ∷ after) → HasTypes c before types → HasTypes d others kinds → P (behind_all c types before) item.steps → Q (behind_all d kinds others) other.steps → Meeting P Q before others item other
  meet Q q c d alike (i ∷ before) others [] kinds item other after rest e h k m f g = absurd k.typed
  meet Q q c d alike [] others (a ∷ types) kinds item other after rest e h k m f g = absurd k.typed
  meet Q q c d alike before (j ∷ others) types [] item other after rest e h k m f g = absurd m.typed
  meet Q q c d alike before [] types (b ∷ kinds) item other after rest e h k m f g = absurd m.typed
  meet Q q c d alike [] [] [] [] item other after rest e h k m f g =
      let same : item ≡ other = cc in
      record { items = refl; item_is = same; context = c; one = f; two = q.moves d c (alike_back c d alike) alike item.steps h.0.steps (subst (λ (x : ItemSteps). Q d x.steps) (sym same) g) }
  meet Q q c d alike [] (j ∷ others) [] (b ∷ kinds) item other after rest e h k m f g =
      let same : j ≡ item = cc in
      absurd (fault.unfit c item.steps (fits_too uses d c (alike_back c d alike) item.steps h.0.steps (subst (λ (x : ItemSteps). Fits d x.steps) same (first_fits d j others b kinds m))) f)
  meet Q q c d alike (i ∷ before) [] (a ∷ types) [] item other after rest e h k m f g =
      let same : i ≡ other = cc in
      absurd (q.unfit d other.steps (subst (λ (x : ItemSteps). Fits d x.steps) same (fits_too uses c d alike i.steps h.0.steps (first_fits c i before a types k))) g)
  meet Q q c d alike (i ∷ before) (j ∷ others) (a ∷ types) (b ∷ kinds) item other after rest e h k m f g =
      let same : j ≡ i = cc in
      let further : before ++ item ∷ after ≡ others ++ other ∷ rest = cc in
      let typed : HasTypes d (i ∷ others) (b ∷ kinds) = subst (λ (x : ItemSteps). HasTypes d (x ∷ others) (b ∷ kinds)) same m in
      let there : Q (behind_all (behind d b i.binders) kinds others) other.steps = subst (λ (x : ItemSteps). Q (behind_all (behind d b x.binders) kinds others) other.steps) same g in
      let met : Meeting P Q before others item other = meet Q q (behind c a i.binders) (behind d b i.binders) (behind_alike uses c d alike i a b h.0 k.typed.0 typed.typed.0) before others types kinds item other after rest further h.1 (rest_typed c i before a types k) (rest_typed d i others b kinds typed) f there in
      record { items = items_same i j before others (sym same) met.items; item_is = met.item_is; context = met.context; one = met.one; two = met.two }

-- first faults of a program
typed_or_fault : (uses : ℕ → Option ℕ) (P : Context → List Step → Type 0) → IsFault uses P → (c : Context) (items : List ItemSteps) (types : List Assignment) → ItemsApart uses items → HasTypes c items types → FirstFault c items P → ⊥
typed_or_fault uses P fault c items types h k f =
    no_fault uses P fault c c (alike_self c) f.before f.types f.item f.after types
    (subst (ItemsApart uses) f.split h) (subst (λ (is : List ItemSteps). HasTypes c is types) f.split k) f.typed f.fault

two_faults : (uses : ℕ → Option ℕ) (P Q : Context → List Step → Type 0) → IsFault uses P → IsFault uses Q → (c : Context) (items : List ItemSteps) → ItemsApart uses items → (f : FirstFault c items P) → (g : FirstFault c items Q) → Meeting P Q f.before g.before f.item g.item
two_faults uses P Q p q c items h f g =
    meet uses P p Q q c c (alike_self c) f.before g.before f.types g.types f.item g.item f.after g.after (sym f.split ∙ g.split) (subst (ItemsApart uses) f.split h) f.typed g.typed f.fault g.fault

pub typed_or_unsolved : (uses : ℕ → Option ℕ) (c : Context) (items : List ItemSteps) (types : List Assignment) (rule : ℕ) (span : Span) → ItemsApart uses items → HasTypes c items types → FirstFault c items (λ e ss. IsUnsolved e ss rule span) → ⊥
typed_or_unsolved uses c items types rule span h k f = typed_or_fault uses _ (unsolved_fault uses rule span) c items types h k f

pub typed_or_large : (uses : ℕ → Option ℕ) (c : Context) (items : List ItemSteps) (types : List Assignment) (span : Span) → ItemsApart uses items → HasTypes c items types → FirstFault c items (λ e ss. IsTooLarge e ss span) → ⊥
typed_or_large uses c items types span h k f = typed_or_fault uses _ (large_fault uses span) c items types h k f

pub first_unsolved_once : (uses : ℕ → Option ℕ) (c : Context) (items : List ItemSteps) (rule rule' : ℕ) (span span' : Span) → ItemsApart uses items → FirstFault c items (λ e ss. IsUnsolved e ss rule span) → FirstFault c items (λ e ss. IsUnsolved e ss rule' span') → (rule ≡ rule') × (span ≡ span')
first_unsolved_once uses c items rule rule' span span' h f g =
    let m : Meeting (λ e ss. IsUnsolved e ss rule span) (λ e ss. IsUnsolved e ss rule' span') f.before g.before f.item g.item = two_faults uses _ _ (unsolved_fault uses rule span) (unsolved_fault uses rule' span') c items h f g in
    unsolved_once m.context f.item.steps rule rule' span span' m.one m.two

pub first_large_once : (uses : ℕ → Option ℕ) (c : Context) (items : List ItemSteps) (span span' : Span) → ItemsApart uses items → FirstFault c items (λ e ss. IsTooLarge e ss span) → FirstFault c items (λ e ss. IsTooLarge e ss span') → span ≡ span'
first_large_once uses c items span span' h f g =
    let m : Meeting (λ e ss. IsTooLarge e ss span) (λ e ss. IsTooLarge e ss span') f.before g.before f.item g.item = two_faults uses _ _ (large_fault uses span) (large_fault uses span') c items h f g in
    large_once m.context f.item.steps span span' m.one m.two

pub first_unsolved_or_large : (uses : ℕ → Option ℕ) (c : Context) (items : List ItemSteps) (rule : ℕ) (span span' : Span) → ItemsApart uses items → FirstFault c items (λ e ss. IsUnsolved e ss rule span) → FirstFault c items (λ e ss. IsTooLarge e ss span') → ⊥
first_unsolved_or_large uses c items rule span span' h f g =
    let m : Meeting (λ e ss. IsUnsolved e ss rule span) (λ e ss. IsTooLarge e ss span') f.before g.before f.item g.item = two_faults uses _ _ (unsolved_fault uses rule span) (large_fault uses span') c items h f g in
    unsolved_or_large m.context f.item.steps rule span span' m.one m.two

pub first_unsolved_item : (uses : ℕ → Option ℕ) (c : Context) (items : List ItemSteps) (rule rule' : ℕ) (span span' : Span) → ItemsApart uses items → (f : FirstFault c items (λ e ss. IsUnsolved e ss rule span)) → (g : FirstFault c items (λ e ss. IsUnsolved e ss rule' span')) → f.before ≡ g.before
first_unsolved_item uses c items rule rule' span span' h f g =
    let m : Meeting (λ e ss. IsUnsolved e ss rule span) (λ e ss. IsUnsolved e ss rule' span') f.before g.before f.item g.item = two_faults uses _ _ (unsolved_fault uses rule span) (unsolved_fault uses rule' span') c items h f g in
    m.items

pub first_large_item : (uses : ℕ → Option ℕ) (c : Context) (items : List ItemSteps) (span span' : Span) → ItemsApart uses items → (f : FirstFault c items (λ e ss. IsTooLarge e ss span)) → (g : FirstFault c items (λ e ss. IsTooLarge e ss span')) → f.before ≡ g.before
first_large_item uses c items span span' h f g =
    let m : Meeting (λ e ss. IsTooLarge e ss span) (λ e ss. IsTooLarge e ss span') f.before g.before f.item g.item = two_faults uses _ _ (large_fault uses span) (large_fault uses span') c items h f g in
    m.items
