use Rattle.std.proofs.Common.{◌≡◌, ◌+◌, ◌<◌, [], ◌∷◌, ◌++◌, length, Some, None, sym, ap, ◌∙◌, subst, refl, arith, rules}
use Rattle.std.specs.List.{slice_get}
use Rattle.std.proofs.lemmas.Bool.{eqb-true}
use Rattle.std.proofs.lemmas.Option.{slice_get_within}
use Rattle.ml_types.specs.Types.{parts_of}
use Rattle.hm_unify.specs.declared.classes.End.TheVariants.{Built}
use Rattle.hm_unify.specs.declared.measure.Frame.{Frame}
use Rattle.hm_unify.specs.declared.measure.Mark.TheVariants.{Open, Done}
use Rattle.hm_unify.specs.Closing.{class_of}
use Rattle.hm_unify.specs.Shapes.{mark_at, HasSize, FramesWithin, IsSearching, IsMarked, first_of}
use Rattle.hm_unify.proofs.Ends.{none_from}
use Rattle.hm_unify.proofs.Equations.{empty_from}
use Rattle.hm_unify.proofs.Shapes.{FramesWithin-front, FramesWithin-push}
use Rattle.hm_unify.proofs.Searches.{Respected-closure, HasSize-done, HasSize-free, IsSearching-finish, IsSearching-past, IsSearching-enter, open-none}
use Rattle.hm_unify.proofs.measure.advance.Goals as goal

pub node-requires : goal.node-requires
node-requires c = (FramesWithin-front _ c.pop.new.self.items c.in-Some.frame (subst (FramesWithin _) c.in-Some.ensures.items c.requires.frames)).1

pub returns-then-is_empty-clause-goes : goal.returns-then-is_empty-clause-goes
returns-then-is_empty-clause-goes c = λ pairs seen k top s.
    let name = class_of c.args.nodes.now c.args.bound.now k.root_of in
    let w = subst (λ st. IsSearching c.args.nodes.now name c.args.marks.now st top) c.in-Some.ensures.items s in
    let none : slice_get (parts_of c.node.result.now) c.in-Some.frame.next ≡ None = sym c.part.ensures ∙ none_from _ c.in_default-part.not-Some in
    let d = HasSize-done c.args.nodes.now name c.args.marks.now c.pop.new.self.items c.in-Some.frame top _ _ w c.node.ensures none (ap (λ v. v + 1) c.min-size.ensures) in
    let f = IsSearching-finish c.args.nodes.now name c.args.marks.now (record { table = c.insert.new.self }) c.pop.new.self.items c.in-Some.frame top _ _ w c.node.ensures none (ap (λ v. v + 1) c.min-size.ensures) (λ q. c.in_ok-insert.ensures.updates.0 q) in
    let empty : c.pop.new.self.items ≡ [] = empty_from _ (omega (arith, eqb-true _ _ (sym c.is_empty.ensures ∙ c.if-is_empty.true))) in
    let bottom : c.in-Some.frame.node ≡ top = subst (λ st. first_of (st ++ c.in-Some.frame ∷ []) top ≡ top) empty w.bottom in
    (subst (λ v. HasSize c.args.nodes.now name (Built v) (c.min-size.result + 1)) bottom d, subst (λ st. IsMarked c.args.nodes.now name (record { table = c.insert.new.self }) st) empty f.marked)

pub returns-in_default-part-clause-frames : goal.returns-in_default-part-clause-frames
returns-in_default-part-clause-frames c = (FramesWithin-front _ c.pop.new.self.items c.in-Some.frame (subst (FramesWithin _) c.in-Some.ensures.items c.requires.frames)).0

pub returns-in_default-part-clause-goes : goal.returns-in_default-part-clause-goes
returns-in_default-part-clause-goes c = λ pairs seen k top s.
    let name = class_of c.args.nodes.now c.args.bound.now k.root_of in
    let w = subst (λ st. IsSearching c.args.nodes.now name c.args.marks.now st top) c.in-Some.ensures.items s in
    let none : slice_get (parts_of c.node.result.now) c.in-Some.frame.next ≡ None = sym c.part.ensures ∙ none_from _ c.in_default-part.not-Some in
    IsSearching-finish c.args.nodes.now name c.args.marks.now (record { table = c.insert.new.self }) c.pop.new.self.items c.in-Some.frame top _ _ w c.node.ensures none (ap (λ v. v + 1) c.min-size.ensures) (λ q. c.in_ok-insert.ensures.updates.0 q)

pub end-requires-clause-within : goal.end-requires-clause-within
end-requires-clause-within c = c.requires.tabled.parts_in (record { 0 = c.in-Some.frame.node }) c.node.result.now c.in-Some.frame.next c.in-Some-part.part c.node.ensures (sym c.in-Some-part.ensures)

pub returns-in_ok-push-in-Free-clause-frames : goal.returns-in_ok-push-in-Free-clause-frames
returns-in_ok-push-in-Free-clause-frames c =
    let k = FramesWithin-front _ c.pop.new.self.items c.in-Some.frame (subst (FramesWithin _) c.in-Some.ensures.items c.requires.frames) in
    subst (FramesWithin _) (sym c.in_ok-push-in-Free.ensures.items) (FramesWithin-push _ c.pop.new.self.items c.in-Some-past.further k.0 (subst (λ v. v < length c.args.nodes.now) (sym c.in-Some-past.ensures.node) k.1))

pub returns-in_ok-push-in-Free-clause-goes : goal.returns-in_ok-push-in-Free-clause-goes
returns-in_ok-push-in-Free-clause-goes c = λ pairs seen k top s.
    let name = class_of c.args.nodes.now c.args.bound.now k.root_of in
    let w = subst (λ st. IsSearching c.args.nodes.now name c.args.marks.now st top) c.in-Some.ensures.items s in
    let class = ap k.root_of (sym c.end.ensures) ∙ c.in_ok-class.ensures.named k.root_of k.forest ∙ c.in-Free.is in
    let p = c.in-Some-past.ensures in
    subst (λ st. IsSearching c.args.nodes.now name c.args.marks.now st top) (sym c.in_ok-push-in-Free.ensures.items)
    (IsSearching-past c.args.nodes.now name c.args.marks.now c.pop.new.self.items c.in-Some.frame c.in-Some-past.further top c.node.result.now c.in-Some-part.part 1 w c.node.ensures (sym c.in-Some-part.ensures) (HasSize-free _ _ _ _ class) p.node p.next p.size)

pub returns-in_ok-push-in-Some-Done-clause-frames : goal.returns-in_ok-push-in-Some-Done-clause-frames
returns-in_ok-push-in-Some-Done-clause-frames c =
    let k = FramesWithin-front _ c.pop.new.self.items c.in-Some.frame (subst (FramesWithin _) c.in-Some.ensures.items c.requires.frames) in
    subst (FramesWithin _) (sym c.in_ok-push-in-Some-Done.ensures.items) (FramesWithin-push _ c.pop.new.self.items c.in-Some-past-2.further k.0 (subst (λ v. v < length c.args.nodes.now) (sym c.in-Some-past-2.ensures.node) k.1))

pub returns-in_ok-push-in-Some-Done-clause-goes : goal.returns-in_ok-push-in-Some-Done-clause-goes
returns-in_ok-push-in-Some-Done-clause-goes c = λ pairs seen k top s.
    let name = class_of c.args.nodes.now c.args.bound.now k.root_of in
    let w = subst (λ st. IsSearching c.args.nodes.now name c.args.marks.now st top) c.in-Some.ensures.items s in
    let class = ap k.root_of (sym c.end.ensures) ∙ c.in_ok-class.ensures.named k.root_of k.forest ∙ c.in-Built.is in
    let g : mark_at c.args.marks.now c.in-Built.inner ≡ Some (Done c.in-Some-Done.size) = search rules in
    let has = subst (λ v. HasSize c.args.nodes.now name v c.in-Some-Done.size) (sym class) (w.marked.done _ _ g) in
    let p = c.in-Some-past-2.ensures in
    subst (λ st. IsSearching c.args.nodes.now name c.args.marks.now st top) (sym c.in_ok-push-in-Some-Done.ensures.items)
    (IsSearching-past c.args.nodes.now name c.args.marks.now c.pop.new.self.items c.in-Some.frame c.in-Some-past-2.further top c.node.result.now c.in-Some-part.part c.in-Some-Done.size w c.node.ensures (sym c.in-Some-part.ensures) has p.node p.next p.size)

pub returns-in-Some-Open-clause-frames : goal.returns-in-Some-Open-clause-frames
returns-in-Some-Open-clause-frames c = (FramesWithin-front _ c.pop.new.self.items c.in-Some.frame (subst (FramesWithin _) c.in-Some.ensures.items c.requires.frames)).0

pub returns-in-Some-Open-clause-goes : goal.returns-in-Some-Open-clause-goes
returns-in-Some-Open-clause-goes c = λ pairs seen k top s t solves equates.
    let name = class_of c.args.nodes.now c.args.bound.now k.root_of in
    let w = subst (λ st. IsSearching c.args.nodes.now name c.args.marks.now st top) c.in-Some.ensures.items s in
    let class = ap k.root_of (sym c.end.ensures) ∙ c.in_ok-class.ensures.named k.root_of k.forest ∙ c.in-Built.is in
    let g : mark_at c.args.marks.now c.in-Built.inner ≡ Some Open = search rules in
    let part_in = c.requires.tabled.parts_in (record { 0 = c.in-Some.frame.node }) c.node.result.now c.in-Some.frame.next c.in-Some-part.part c.node.ensures (sym c.in-Some-part.ensures) in
    open-none c.args.nodes.now name t (Respected-closure _ _ pairs _ seen k t solves equates) c.args.marks.now c.pop.new.self.items c.in-Some.frame top c.node.result.now c.in-Some-part.part c.in-Built.inner w c.node.ensures (sym c.in-Some-part.ensures) class (k.closing.built _ _ part_in class) g

pub returns-in_ok-push-in-None-2-clause-frames : goal.returns-in_ok-push-in-None-2-clause-frames
returns-in_ok-push-in-None-2-clause-frames c =
    let kk = c.requires.closure.2 in
    let rest = FramesWithin-front _ c.pop.new.self.items c.in-Some.frame (subst (FramesWithin _) c.in-Some.ensures.items c.requires.frames) in
    let class = ap kk.root_of (sym c.end.ensures) ∙ c.in_ok-class.ensures.named kk.root_of kk.forest ∙ c.in-Built.is in
    let part_in = c.requires.tabled.parts_in (record { 0 = c.in-Some.frame.node }) c.node.result.now c.in-Some.frame.next c.in-Some-part.part c.node.ensures (sym c.in-Some-part.ensures) in
    let b = kk.closing.built _ _ part_in class in
    let g : Frame = record { node = c.in-Built.inner; next = 0; size = 0 } in
    let items : c.push-in-None-2.new.self.items ≡ (c.pop.new.self.items ++ c.in-Some.frame ∷ []) ++ g ∷ [] = c.in_ok-push-in-None-2.ensures.items ∙ ap (λ st. st ++ g ∷ []) c.in_ok-push-in-None.ensures.items in
    subst (FramesWithin _) (sym items) (FramesWithin-push _ _ g (FramesWithin-push _ c.pop.new.self.items c.in-Some.frame rest.0 rest.1) (slice_get_within c.args.nodes.now c.in-Built.inner b.node b.at_root))

pub returns-in_ok-push-in-None-2-clause-goes : goal.returns-in_ok-push-in-None-2-clause-goes
returns-in_ok-push-in-None-2-clause-goes c = λ pairs seen k top s.
    let name = class_of c.args.nodes.now c.args.bound.now k.root_of in
    let w = subst (λ st. IsSearching c.args.nodes.now name c.args.marks.now st top) c.in-Some.ensures.items s in
    let class = ap k.root_of (sym c.end.ensures) ∙ c.in_ok-class.ensures.named k.root_of k.forest ∙ c.in-Built.is in
    let part_in = c.requires.tabled.parts_in (record { 0 = c.in-Some.frame.node }) c.node.result.now c.in-Some.frame.next c.in-Some-part.part c.node.ensures (sym c.in-Some-part.ensures) in
    let g : Frame = record { node = c.in-Built.inner; next = 0; size = 0 } in
    let items : c.push-in-None-2.new.self.items ≡ (c.pop.new.self.items ++ c.in-Some.frame ∷ []) ++ g ∷ [] = c.in_ok-push-in-None-2.ensures.items ∙ ap (λ st. st ++ g ∷ []) c.in_ok-push-in-None.ensures.items in
    subst (λ st. IsSearching c.args.nodes.now name (record { table = c.insert-in-None.new.self }) st top) (sym items)
    (IsSearching-enter c.args.nodes.now name c.args.marks.now (record { table = c.insert-in-None.new.self }) c.pop.new.self.items c.in-Some.frame g top c.node.result.now c.in-Some-part.part c.in-Built.inner w c.node.ensures (sym c.in-Some-part.ensures) class (k.closing.built _ _ part_in class) (λ q. c.in_ok-insert-in-None.ensures.updates.0 q) refl refl refl)
