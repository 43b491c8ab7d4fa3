-- What a verdict on pairs says.
use Rattle.std.specs.Prelude.{List}
use Rattle.ml_types.specs.declared.node.TyNode.{TyNode}
use Rattle.hm_unify.specs.declared.judge.Verdict.{Verdict}
use Rattle.hm_unify.specs.declared.judge.Verdict.TheVariants.{Clash, Cycle, TooLarge, Small}
use Rattle.hm_unify.specs.Solutions.{Bound, Pairs, NoInfinite, HasInfinite, NoFinite, IsTooLarge, Fits}

abbrev pub Judged : List TyNode → Bound → Pairs → Verdict → Type 0
Judged nodes bound pairs Clash = NoInfinite nodes bound pairs
Judged nodes bound pairs Cycle = HasInfinite nodes bound pairs × NoFinite nodes bound pairs
Judged nodes bound pairs TooLarge = IsTooLarge nodes bound pairs
Judged nodes bound pairs Small = Fits nodes bound pairs
