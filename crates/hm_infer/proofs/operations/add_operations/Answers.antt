use Rattle.std.proofs.Common.{[]}
use Rattle.std.proofs.lemmas.Result.{on_ok_weaker}
use Rattle.ml_typing.specs.Typing.{plain_type}
use Rattle.hm_terms.specs.Stores.{store}
use Rattle.hm_infer.specs.Starts.{AddsFunction, IsFirst, HaveTypes, operation_types}
use Rattle.hm_infer.proofs.Starting.{Made, made_function, made_node, stands_arrow}
use Rattle.hm_infer.proofs.operations.add_operations.Goals as goal

pub returns : goal.returns
returns c = on_ok_weaker c.add-11.result (λ last first. made first last) c.add-11.ensures
  where
    made : IsFirst (store c.args.solver.now) → AddsFunction (store c.add-10.new.solver) (store c.add-11.new.solver) c.in_ok-t.t.string c.in_ok-t.t.any → HaveTypes (store c.args.solver.now) (store c.add-11.new.solver) operation_types
    made first last =
        let t = c.in_ok-t.ensures first in
        let m0 : Made (store c.args.solver.now) (store c.basic_types.new.solver) c.in_ok-t.t [] = record { have = t.0; basic = t.1 } in
        let m1 = made_function m0 c.in_ok-add.ensures m0.basic.string m0.basic.unit in
        let m2 = made_function m1 c.in_ok-add-2.ensures m1.basic.int m1.basic.unit in
        let m3 = made_function m2 c.in_ok-add-3.ensures m2.basic.char m2.basic.unit in
        let m4 = made_function m3 c.in_ok-add-4.ensures m3.basic.string m3.basic.unit in
        let m5 = made_function m4 c.in_ok-add-5.ensures m4.basic.int m4.basic.string in
        let m6 = made_function m5 c.in_ok-add-6.ensures m5.basic.char m5.basic.int in
        let m7 = made_function m6 c.in_ok-add-7.ensures m6.basic.int m6.basic.char in
        let m8 = made_function m7 c.in_ok-add-8.ensures m7.basic.string m7.basic.int in
        let m = made_node m8 c.in_ok-behind_text.ensures.adds in
        let text = stands_arrow (store c.args.solver.now) (store c.add-8.new.solver) (store c.arrow.new.self) _ _ c.in_ok-t.t.int c.in_ok-t.t.char c.in_ok-behind_text.behind_text (plain_type 0) (plain_type 1) m8.have c.in_ok-behind_text.ensures.adds m8.basic.int m8.basic.char in
        let m9 = made_function m c.in_ok-add-9.ensures m.basic.string text in
        let m10 = made_function m9 c.in_ok-add-10.ensures m9.basic.int m9.basic.any in
        (made_function m10 last m10.basic.string m10.basic.any).have
