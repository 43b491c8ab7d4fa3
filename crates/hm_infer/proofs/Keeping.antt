-- What was there before an item stands for what it did, while the steps of the item are run.
use Rattle.std.proofs.Common.{◌≡◌, List, sym, subst}
use Rattle.ml_types.specs.declared.declared.DeclInfo.{DeclInfo}
use Rattle.ml_typing.specs.declared.equation.Unknown.{Unknown}
use Rattle.ml_typing.specs.declared.equation.Step.{Step}
use Rattle.ml_typing.specs.Terms.{Context}
use Rattle.ml_typing.specs.Typing.{step_pairs}
use Rattle.hm_unify.specs.Solutions.{Pairs}
use Rattle.hm_unify.specs.States.{Equated}
use Rattle.hm_terms.specs.Stores.{Store, state, SameNames, IsReady, Grows}
use Rattle.hm_terms.specs.Contexts.{IsRead}
use Rattle.hm_terms.proofs.Contexts.{shows_grow, read_grows}
use Rattle.hm_infer.specs.Running.{Keeps}
use Rattle.hm_infer.proofs.Readings.{keeps_equated}
use Rattle.hm_infer.proofs.StepRuns.{LowersStep}

pub keeps_grown : (old new : Store) → IsReady old → Grows old new → Keeps old new
keeps_grown old new r g x w k = shows_grow old new r g x w k

pub keeps_then : (a b c : Store) → Keeps a b → Keeps b c → Keeps a c
keeps_then a b c f g x w k = g x w (f x w k)

pub keeps_holds : (old mid new : Store) (decls : List DeclInfo) (c : Context) (step : Step) (ids slice : Pairs) → IsRead old decls c → LowersStep old mid decls step ids → slice ≡ ids → Equated (state mid) (state new) slice → ((u : Unknown) → new.ids u ≡ mid.ids u) → SameNames mid new → Keeps old new
keeps_holds old mid new decls c step ids slice k lowers is e same names =
    let l = lowers c k in
    let equated : Equated (state mid) (state new) ids = subst (λ (ps : Pairs). Equated (state mid) (state new) ps) is e in
    keeps_then old mid new (keeps_grown old mid k.ready l.grows)
    (keeps_equated mid new decls c (step_pairs c step) ids (read_grows old mid decls c k l.grows) l.hold equated same names)

pub keeps_refused : (old mid new : Store) (decls : List DeclInfo) (c : Context) (step : Step) (ids : Pairs) → IsRead old decls c → LowersStep old mid decls step ids → new ≡ mid → Keeps old new
keeps_refused old mid new decls c step ids k lowers same =
    subst (λ (s : Store). Keeps old s) (sym same) (keeps_grown old mid k.ready (lowers c k).grows)

pub keeps_same : (s : Store) → Keeps s s
keeps_same s x w k = k

pub keeps_to : (a b c : Store) → c ≡ b → Keeps a b → Keeps a c
keeps_to a b c same k = subst (λ (s : Store). Keeps a s) (sym same) k
