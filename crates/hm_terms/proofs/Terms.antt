-- Terms with parts, from the types of the parts.
use Rattle.std.proofs.Common.{◌≡◌, ℕ, ◌+◌, ◌<◌, List, [], ◌∷◌, ◌++◌, map, take, length, get_or, refl, sym, subst}
use Rattle.std.specs.List.{slice_get}
use Rattle.std.proofs.lemmas.Option.{slice_get_read}
use Rattle.ml_types.specs.declared.node.TyId.{TyId}
use Rattle.ml_types.specs.declared.node.TyNode.TheVariants.{Tuple}
use Rattle.ml_types.specs.declared.declared.DeclInfo.{DeclInfo}
use Rattle.ml_typing.specs.declared.equation.Term.{Term}
use Rattle.ml_typing.specs.declared.equation.Term.TheVariants as v
use Rattle.ml_typing.specs.Terms.{Context, Shape, argument, field, made, named, function, cons_of, fields_of, shape_of}
use Rattle.hm_terms.specs.Stores.{Store, AddsNode, IsReady}
use Rattle.hm_terms.specs.Shapes.{Holds, HoldAll, Lowers, LowersAll}
use Rattle.hm_terms.specs.Contexts.{IsRead}
use Rattle.hm_terms.proofs.Growth.{grows_then}
use Rattle.hm_terms.proofs.Holding.{hold_all_grows}
use Rattle.hm_terms.proofs.Building.{lowers_then, lowers_more, tuple_lowers}
use Rattle.hm_terms.proofs.Contexts.{read_grows}
use Rattle.hm_terms.proofs.Layers.{argument_is, field_is, made_is, con_is, tuple_is, function_is}
use Rattle.hm_terms.proofs.Walking.{term_lowers, map_take}

pub made_term : (old new : Store) (decls : List DeclInfo) (c : Context) (t : Term) (d n : ℕ) (x : TyId) → t ≡ v.Made d n → IsRead old decls c → Lowers old new (made d n (slice_get decls d)) x → Lowers old new (shape_of c t) x
made_term old new decls c t d n x e k l =
    term_lowers old new c t (v.Made d n) _ x e (made_is c d n) (subst (λ (ds : List DeclInfo). Lowers old new (made d n (slice_get ds d)) x) (sym k.decls_are) l)

pub argument_term : (old new : Store) (decls : List DeclInfo) (c : Context) (t : Term) (d q n : ℕ) (x : TyId) → t ≡ v.Argument d q n → IsRead old decls c → Lowers old new (argument c.declared n (slice_get (cons_of (slice_get decls d)) q)) x → Lowers old new (shape_of c t) x
argument_term old new decls c t d q n x e k l =
    term_lowers old new c t (v.Argument d q n) _ x e (argument_is c d q n) (subst (λ (ds : List DeclInfo). Lowers old new (argument c.declared n (slice_get (cons_of (slice_get ds d)) q)) x) (sym k.decls_are) l)

pub field_term : (old new : Store) (decls : List DeclInfo) (c : Context) (t : Term) (d f n : ℕ) (x : TyId) → t ≡ v.Field d f n → IsRead old decls c → Lowers old new (field c.declared n (slice_get (fields_of (slice_get decls d)) f)) x → Lowers old new (shape_of c t) x
field_term old new decls c t d f n x e k l =
    term_lowers old new c t (v.Field d f n) _ x e (field_is c d f n) (subst (λ (ds : List DeclInfo). Lowers old new (field c.declared n (slice_get (fields_of (slice_get ds d)) f)) x) (sym k.decls_are) l)

at_slice : (old mid : Store) (c : Context) (slice args : List Term) (xs : List TyId) → slice ≡ args → LowersAll old mid (map (shape_of c) slice) xs → LowersAll old mid (map (shape_of c) args) xs
at_slice old mid c slice args xs e l = subst (λ (ts : List Term). LowersAll old mid (map (shape_of c) ts) xs) e l

pub con_term : (old mid new : Store) (decls : List DeclInfo) (c : Context) (t : Term) (d : ℕ) (args slice : List Term) (xs : List TyId) (x : TyId) → t ≡ v.Con d args → slice ≡ args → IsRead old decls c → LowersAll old mid (map (shape_of c) slice) xs → ((b : Context) (hs : List Shape) → IsRead mid decls b → HoldAll mid hs xs → Lowers mid new (named b.declared d hs (slice_get decls d)) x) → Lowers old new (shape_of c t) x
con_term old mid new decls c t d args slice xs x e same k all lowers =
    let l = at_slice old mid c slice args xs same all in
    let one = lowers c (map (shape_of c) args) (read_grows old mid decls c k l.grows) l.hold in
    let whole = lowers_then old mid new _ x l.grows one in
    term_lowers old new c t (v.Con d args) _ x e (con_is c d args) (subst (λ (ds : List DeclInfo). Lowers old new (named c.declared d (map (shape_of c) args) (slice_get ds d)) x) (sym k.decls_are) whole)

pub tuple_term : (old mid new : Store) (decls : List DeclInfo) (c : Context) (t : Term) (parts slice : List Term) (xs : List TyId) (x : TyId) → t ≡ v.Tuple parts → slice ≡ parts → IsRead old decls c → LowersAll old mid (map (shape_of c) slice) xs → AddsNode mid new (Tuple xs) x → Lowers old new (shape_of c t) x
tuple_term old mid new decls c t parts slice xs x e same k all a =
    let l = at_slice old mid c slice parts xs same all in
    term_lowers old new c t (v.Tuple parts) _ x e (tuple_is c parts) (tuple_lowers old mid new (map (shape_of c) parts) xs x k.ready l a)

pub function_term : (old mid last new : Store) (decls : List DeclInfo) (c : Context) (t result inner : Term) (params slice : List Term) (xs ys : List TyId) (to x : TyId) → t ≡ v.Function params result → slice ≡ params → inner ≡ result → ys ≡ xs → IsRead old decls c → LowersAll old mid (map (shape_of c) slice) xs → ((b : Context) → IsRead mid decls b → Lowers mid last (shape_of b inner) to) → ((hs : List Shape) (r : Shape) → IsReady last → HoldAll last hs ys → Holds last r to → Lowers last new (function hs r) x) → Lowers old new (shape_of c t) x
function_term old mid last new decls c t result inner params slice xs ys to x e same within list k all one lowers =
    let l = at_slice old mid c slice params xs same all in
    let mid_ready = l.grows.ready k.ready in
    let end_ = one c (read_grows old mid decls c k l.grows) in
    let here : Holds last (shape_of c result) to = subst (λ (u : Term). Holds last (shape_of c u) to) within end_.holds in
    let hold = hold_all_grows mid last mid_ready end_.grows (map (shape_of c) params) xs l.hold in
    let hold_ys : HoldAll last (map (shape_of c) params) ys = subst (λ (zs : List TyId). HoldAll last (map (shape_of c) params) zs) (sym list) hold in
    let f = lowers (map (shape_of c) params) (shape_of c result) (end_.grows.ready mid_ready) hold_ys here in
    term_lowers old new c t (v.Function params result) _ x e (function_is c params result) (lowers_then old last new _ x (grows_then old mid last l.grows end_.grows) f)

-- one term more
pub term_next : (first old new : Store) (decls : List DeclInfo) (c : Context) (ts : List Term) (n : ℕ) (t : Term) (x : TyId) (xs ys : List TyId) → n < length ts → t ≡ get_or ts n t → IsRead first decls c → LowersAll first old (map (shape_of c) (take n ts)) xs → ((b : Context) → IsRead old decls b → Lowers old new (shape_of b t) x) → ys ≡ xs ++ x ∷ [] → LowersAll first new (map (shape_of c) (take (n + 1) ts)) ys
term_next first old new decls c ts n t x xs ys lt is k l one grown =
    lowers_more first old new (map (shape_of c) (take n ts)) _ xs ys (shape_of c t) x k.ready l (one c (read_grows first old decls c k l.grows))
    (map_take (shape_of c) ts n t (slice_get_read ts (length ts) n t refl lt is)) grown
