-- Which rule refuses pairs, from what the solver says of them where it knows nothing else.
use Rattle.std.proofs.Common.{◌≡◌, ℕ, List, Some, None, refl, sym, ◌∙◌, inl, inr, subst}
use Rattle.ml_types.specs.declared.node.TyId.{TyId}
use Rattle.ml_types.specs.Types.{Tree}
use Rattle.ml_types.specs.declared.declared.DeclInfo.{DeclInfo}
use Rattle.ml_typing.specs.Terms.{Context}
use Rattle.ml_typing.specs.Typing.{Assignment, Pair}
use Rattle.ml_typing.specs.Refusals.{IsRuleOf}
use Rattle.hm_unify.specs.Solutions.{Pairs}
use Rattle.hm_unify.specs.States.{IsSound, Refused}
use Rattle.hm_unify.specs.declared.error.UnifyErr.{UnifyErr}
use Rattle.hm_unify.specs.declared.error.UnifyErr.TheVariants.{Clash, Cycle}
use Rattle.hm_terms.specs.Stores.{Store, state, Reading, IsReady, Grows, Forgets}
use Rattle.hm_terms.specs.Contexts.{IsRead}
use Rattle.hm_infer.specs.Running.{HoldPairs, LowersPairs, HasNoIds}
use Rattle.hm_infer.proofs.Readings.{read_forgets}
use Rattle.hm_infer.proofs.Shown.{shown, shown_reading, at_other_types}
use Rattle.hm_infer.proofs.Names.{IsFree}
use Rattle.hm_infer.proofs.FromShapes.{no_infinite}
use Rattle.hm_infer.proofs.FromIds.{has_infinite}

-- where no unknown has come up, unknowns may have any types, and they may still where nothing was made equal
all_read : (s : Store) → IsSound s.nodes s.bound → HasNoIds s → (a : Assignment) → (t : TyId → Tree) × Reading s t a
all_read s sound none a = (sound.solvable.0, record { solves = sound.solvable.1; reads = λ u x p. absurd (let q : None ≡ Some x = sym (none u) ∙ p in cc) })

all_read_on : (old new : Store) → IsReady old → Grows old new → ((a : Assignment) → (t : TyId → Tree) × Reading old t a) → (a : Assignment) → (t : TyId → Tree) × Reading new t a
all_read_on old new r g free a =
    let k = free a in
    let e = g.extends r k.0 a k.1 in
    (e.types, e.reading)

is_free : (s : Store) (ps : List Pair) (ids : Pairs) → IsReady s → IsSound s.nodes s.bound → HoldPairs s ps ids → ((a : Assignment) → (t : TyId → Tree) × Reading s t a) → IsFree s ps ids
is_free s ps ids r sound hold free =
    let a = shown s r sound in
    let k = shown_reading s a.0 r sound a.1 in
    record {
      ready = r;
      hold = hold;
      free = free;
      types = k.0;
      shown = a.0;
      reading = k.1;
      stands = k.2;
      instances = λ t solves. (let f = at_other_types s t solves in (f.0, λ x h. f.1 x (k.0 x) (k.2 x h)));
    }

lowered : (old mid new : Store) (decls : List DeclInfo) (c : Context) (ps : List Pair) (ids : Pairs) → IsRead old decls c → Forgets old mid → IsSound mid.nodes mid.bound → (IsRead mid decls c → LowersPairs mid new ps ids) → IsSound new.nodes new.bound → IsFree new ps ids
lowered old mid new decls c ps ids read forgets sound lowers after =
    let r : IsRead mid decls c = read_forgets old mid decls c read forgets in
    let l : LowersPairs mid new ps ids = lowers r in
    is_free new ps ids (l.grows.ready r.ready) after l.hold (all_read_on mid new r.ready l.grows (all_read mid sound forgets.none))

refused_at : (s : Store) (slice ids : Pairs) (error same : UnifyErr) → slice ≡ ids → error ≡ same → Refused (state s) slice error → Refused (state s) ids same
refused_at s slice ids error same p q refused =
    subst (λ (is : Pairs). Refused (state s) is same) p (subst (λ (e : UnifyErr). Refused (state s) slice e) q refused)

pub types_differ : (old mid new : Store) (decls : List DeclInfo) (c : Context) (ps : List Pair) (slice ids : Pairs) (error : UnifyErr) (k : ℕ) → IsRead old decls c → Forgets old mid → IsSound mid.nodes mid.bound → (IsRead mid decls c → LowersPairs mid new ps ids) → IsSound new.nodes new.bound → slice ≡ ids → error ≡ Clash k → Refused (state new) slice error → IsRuleOf 40 ps
types_differ old mid new decls c ps slice ids error k read forgets sound lowers after same is refused =
    inl (refl, no_infinite new ps ids (lowered old mid new decls c ps ids read forgets sound lowers after) (refused_at new slice ids error (Clash k) same is refused).0)

pub infinite_type : (old mid new : Store) (decls : List DeclInfo) (c : Context) (ps : List Pair) (slice ids : Pairs) (error : UnifyErr) (k : ℕ) → IsRead old decls c → Forgets old mid → IsSound mid.nodes mid.bound → (IsRead mid decls c → LowersPairs mid new ps ids) → IsSound new.nodes new.bound → slice ≡ ids → error ≡ Cycle k → Refused (state new) slice error → IsRuleOf 41 ps
infinite_type old mid new decls c ps slice ids error k read forgets sound lowers after same is refused =
    inr (refl, has_infinite new ps ids (lowered old mid new decls c ps ids read forgets sound lowers after) (refused_at new slice ids error (Cycle k) same is refused).0)
