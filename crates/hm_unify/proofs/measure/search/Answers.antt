use Rattle.std.proofs.Common.{◌≡◌, [], ◌∷◌, ◌++◌, length, sym, ap, ◌∙◌, subst, refl}
use Rattle.hm_unify.specs.declared.measure.Frame.{Frame}
use Rattle.hm_unify.specs.Closing.{class_of}
use Rattle.hm_unify.specs.Shapes.{FramesWithin, IsSearching, Advances}
use Rattle.hm_unify.proofs.Searches.{IsSearching-start}
use Rattle.hm_unify.proofs.measure.search.Goals as goal

pub loop-step-init : goal.loop-step-init
loop-step-init c =
    let g : Frame = record { node = c.args.top; next = 0; size = 0 } in
    let items : c.push.new.self.items ≡ g ∷ [] = c.in_ok-push.ensures.items ∙ ap (λ st. st ++ g ∷ []) c.new-stack.ensures.items in
    record {
      frames = subst (FramesWithin (length c.args.nodes.now)) (sym items) (c.requires.within, tt);
      searching = λ pairs seen k b m. subst (λ st. IsSearching c.args.nodes.now (class_of c.args.nodes.now c.args.bound.now k.root_of) (record { table = c.insert.new.self }) st c.args.top) (sym items)
          (IsSearching-start c.args.nodes.now (class_of c.args.nodes.now c.args.bound.now k.root_of) c.args.marks.now (record { table = c.insert.new.self }) g c.args.top m b (λ q. c.in_ok-insert.ensures.updates.0 q) refl refl refl);
    }

pub returns-in-Measured : goal.returns-in-Measured
returns-in-Measured c = λ pairs seen k b m.
    subst (Advances c.args.nodes.now c.args.bound.now pairs (class_of c.args.nodes.now c.args.bound.now k.root_of) c.advance.new.marks c.advance.new.stack.items c.args.top) c.in-Measured.is
    (c.in_ok-advance.ensures.goes pairs seen k c.args.top (c.loop-step.invariant.searching pairs seen k b m))

pub returns-in-Cycle : goal.returns-in-Cycle
returns-in-Cycle c = λ pairs seen k b m.
    subst (Advances c.args.nodes.now c.args.bound.now pairs (class_of c.args.nodes.now c.args.bound.now k.root_of) c.advance.new.marks c.advance.new.stack.items c.args.top) c.in-Cycle.is
    (c.in_ok-advance.ensures.goes pairs seen k c.args.top (c.loop-step.invariant.searching pairs seen k b m))

pub loop-step-preserved : goal.loop-step-preserved
loop-step-preserved c =
    record {
      frames = c.in_ok-advance.ensures.frames;
      searching = λ pairs seen k b m. subst (Advances c.args.nodes.now c.args.bound.now pairs (class_of c.args.nodes.now c.args.bound.now k.root_of) c.advance.new.marks c.advance.new.stack.items c.args.top) c.in-Goes.is
          (c.in_ok-advance.ensures.goes pairs seen k c.args.top (c.loop-step.invariant.searching pairs seen k b m));
    }
