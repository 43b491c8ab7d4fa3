-- Types that terms make, with the slots of their arrows, stay so while the solver grows.
use Rattle.std.proofs.Common.{◌≡◌, ℕ, List, [], ◌∷◌, ◌++◌, Option, Some, None, ap, ◌∙◌, inl, inr}
use Rattle.std.specs.List.{slice_get}
use Rattle.ml_types.specs.declared.node.TyId.{TyId}
use Rattle.ml_types.specs.declared.node.TyNode.TheVariants.{Con, Tuple, Arrow}
use Rattle.ml_types.specs.declared.declared.ArgInfo.{ArgInfo}
use Rattle.ml_types.specs.declared.declared.ConInfo.{ConInfo}
use Rattle.ml_types.specs.declared.declared.FieldInfo.{FieldInfo}
use Rattle.ml_types.specs.declared.declared.DeclInfo.{DeclInfo}
use Rattle.ml_typing.specs.declared.equation.Unknown.TheVariants.{Binder, Fresh}
use Rattle.ml_typing.specs.declared.equation.Term.{Term}
use Rattle.hm_terms.specs.Stores.{Store, IsReady, Grows}
use Rattle.hm_terms.specs.Contexts.{op_place}
use Rattle.hm_terms.specs.Slots.{at_fresh_of, at_arguments}
use Rattle.hm_terms.specs.Spelling.{IsAtFresh, IsTop, AreFresh, IsMade, AreAtFresh, IsProduct, IsWhole, IsArgument, IsField, IsNamed, Arrows, no_arrow, arrow_from, Spells, is_unknown, is_top, is_operation, is_made, is_argument, is_field, is_named, is_tuple, is_function, SpellAll, no_term, term_and}
use Rattle.hm_terms.proofs.Growth.{longer, node_old}
use Rattle.hm_terms.proofs.Slots.{copy_grows}

pub at_fresh_grows : (old new : Store) → IsReady old → Grows old new → (node : ℕ) (o o' : Option TyId) (x : TyId) → o' ≡ o → IsAtFresh old node o x → IsAtFresh new node o' x
at_fresh_grows old new r g node o o' x e k = (k.0, e ∙ k.1, copy_grows old new r g (at_fresh_of node) k.0 x k.2)

pub top_grows : (old new : Store) → IsReady old → Grows old new → (b node : ℕ) (x : TyId) → IsTop old b node x → IsTop new b node x
top_grows old new r g b node x (inl k) = inl (g.names.schemes b ∙ k.0, g.ids (Binder b) x k.1)
top_grows old new r g b node x (inr k) = inr (at_fresh_grows old new r g node (old.schemes b) (new.schemes b) x (g.names.schemes b) k)

pub fresh_grow : (old new : Store) → Grows old new → (node count : ℕ) (xs : List TyId) → AreFresh old node count xs → AreFresh new node count xs
fresh_grow old new g node count xs k = record { count_is = k.count_is; fresh = λ i x e. g.ids (Fresh node i) x (k.fresh i x e) }

pub made_grows : (old new : Store) → Grows old new → (decl node count : ℕ) (x : TyId) → IsMade old decl node count x → IsMade new decl node count x
made_grows old new g decl node count x k = record {
  arguments = k.arguments;
  are_fresh = fresh_grow old new g node count k.arguments k.are_fresh;
  node_is = node_old old new (longer old new g) x (Con decl k.arguments) k.node_is;
}

pub all_fresh_grow : (old new : Store) → IsReady old → Grows old new → (node : ℕ) (args : List ArgInfo) (xs : List TyId) → AreAtFresh old node args xs → AreAtFresh new node args xs
all_fresh_grow old new r g node [] [] k = k
all_fresh_grow old new r g node [] (x ∷ xs) k = k
all_fresh_grow old new r g node (a ∷ args) [] k = k
all_fresh_grow old new r g node (a ∷ args) (x ∷ xs) k =
    (at_fresh_grows old new r g node (old.declared a.ty.0) (new.declared a.ty.0) x (g.names.declared a.ty.0) k.0, all_fresh_grow old new r g node args xs k.1)

pub product_grows : (old new : Store) → Grows old new → (xs : List TyId) (x : TyId) → IsProduct old xs x → IsProduct new xs x
product_grows old new g xs x (inl k) = inl k
product_grows old new g xs x (inr k) = inr (k.0, node_old old new (longer old new g) x (Tuple xs) k.1)

pub whole_grows : (old new : Store) → IsReady old → Grows old new → (node : ℕ) (args : List ArgInfo) (x : TyId) → IsWhole old node args x → IsWhole new node args x
whole_grows old new r g node args x k = record {
  parts = k.parts;
  are_copies = all_fresh_grow old new r g node args k.parts k.are_copies;
  product_is = product_grows old new g k.parts x k.product_is;
}

argument_grows : (old new : Store) → IsReady old → Grows old new → (node : ℕ) (o : Option ConInfo) (x : TyId) → IsArgument old node o x → IsArgument new node o x
argument_grows old new r g node None x k = node_old old new (longer old new g) x (Tuple []) k
argument_grows old new r g node (Some con) x k = whole_grows old new r g node con.args x k

field_grows : (old new : Store) → IsReady old → Grows old new → (node : ℕ) (o : Option FieldInfo) (x : TyId) → IsField old node o x → IsField new node o x
field_grows old new r g node None x k = node_old old new (longer old new g) x (Tuple []) k
field_grows old new r g node (Some f) x k = at_fresh_grows old new r g node (old.declared f.arg.ty.0) (new.declared f.arg.ty.0) x (g.names.declared f.arg.ty.0) k

named_grows : (old new : Store) → IsReady old → Grows old new → (decl : ℕ) (o : Option TyId) (args : List TyId) (x : TyId) → IsNamed old decl o args x → IsNamed new decl o args x
named_grows old new r g decl None args x k = node_old old new (longer old new g) x (Con decl args) k
named_grows old new r g decl (Some body) args x k = (k.0, g.names.declared body.0 ∙ k.1, copy_grows old new r g (at_arguments args) k.0 x k.2)

pub arrows_grow : (old new : Store) → Grows old new → (k : ℕ) (params : List TyId) (to : TyId) (m : ℕ) (x : TyId) → Arrows old k params to m x → Arrows new k params to m x
arrows_grow old new g k params to m x (no_arrow i w) = no_arrow i w
arrows_grow old new g k params to m x (arrow_from i j from ps w y z rest at) =
    arrow_from i j from ps w y z (arrows_grow old new g i ps w j y rest) (node_old old new (longer old new g) z (Arrow j from y) at)

mutual
  pub spells_grow : (old new : Store) → IsReady old → Grows old new → (decls : List DeclInfo) (k : ℕ) (t : Term) (m : ℕ) (x : TyId) → Spells old decls k t m x → Spells new decls k t m x
  spells_grow old new r g decls k t m x (is_unknown i w y u e h) = is_unknown i w y u e (g.ids u y h)
  spells_grow old new r g decls k t m x (is_top i w y b node e h) = is_top i w y b node e (top_grows old new r g b node y h)
  spells_grow old new r g decls k t m x (is_operation i w y op node e h) =
      is_operation i w y op node e (at_fresh_grows old new r g node (slice_get old.operations (op_place op)) (slice_get new.operations (op_place op)) y (ap (λ (zs : List TyId). slice_get zs (op_place op)) g.names.operations) h)
  spells_grow old new r g decls k t m x (is_made i w y d node e h) = is_made i w y d node e (made_grows old new g d node _ y h)
  spells_grow old new r g decls k t m x (is_argument i w y d q node e h) = is_argument i w y d q node e (argument_grows old new r g node _ y h)
  spells_grow old new r g decls k t m x (is_field i w y d f node e h) = is_field i w y d f node e (field_grows old new r g node _ y h)
  spells_grow old new r g decls k t m x (is_named i j w y d args ys e all h) = is_named i j w y d args ys e (spell_all_grow old new r g decls i args j ys all) (named_grows old new r g d _ ys y h)
  spells_grow old new r g decls k t m x (is_tuple i j w y parts ys e all h) = is_tuple i j w y parts ys e (spell_all_grow old new r g decls i parts j ys all) (node_old old new (longer old new g) y (Tuple ys) h)
  spells_grow old new r g decls k t m x (is_function i j l n w y params result ys z e all one arrows) =
      is_function i j l n w y params result ys z e (spell_all_grow old new r g decls i params j ys all) (spells_grow old new r g decls j result l z one) (arrows_grow old new g l ys z n y arrows)

  pub spell_all_grow : (old new : Store) → IsReady old → Grows old new → (decls : List DeclInfo) (k : ℕ) (ts : List Term) (m : ℕ) (xs : List TyId) → SpellAll old decls k ts m xs → SpellAll new decls k ts m xs
  spell_all_grow old new r g decls k ts m xs (no_term i) = no_term i
  spell_all_grow old new r g decls k ts m xs (term_and i j l t us x ys one all) =
      term_and i j l t us x ys (spells_grow old new r g decls i t j x one) (spell_all_grow old new r g decls j us l ys all)

-- one term more
pub spell_push : (s : Store) (decls : List DeclInfo) (k : ℕ) (ts : List Term) (m : ℕ) (xs : List TyId) (n : ℕ) (t : Term) (x : TyId) → SpellAll s decls k ts m xs → Spells s decls m t n x → SpellAll s decls k (ts ++ t ∷ []) n (xs ++ x ∷ [])
spell_push s decls k ts m xs n t x (no_term i) one = term_and i n n t [] x [] one (no_term n)
spell_push s decls k ts m xs n t x (term_and i j l u us y ys first all) one =
    term_and i j n u (us ++ t ∷ []) y (ys ++ x ∷ []) first (spell_push s decls j us l ys n t x all one)
