use Rattle.std.proofs.Common.{◌≢◌, drop, ap}
use Rattle.ml_cursor.specs.declared.front.Front.TheVariants as Front
use Rattle.ml_cursor.specs.Fronts.{front}
use Rattle.ml_parse_forms.proofs.ListLooks.{other_stands}
use Rattle.ml_parse_patterns.proofs.Relays.{relay}
use Rattle.ml_parser.proofs.ItemReadings.{up_to_init, up_to_between, up_to_step, up_to_done, up_to_fails, semis_shorter, item_shorter}
use Rattle.ml_parser.proofs.item.read_items.Goals as goal

pub items-init : goal.items-init
items-init c = up_to_init c.new-list.ensures

pub items-smaller-then-accept : goal.items-smaller-then-accept
items-smaller-then-accept c =
    semis_shorter (drop c.items.at c.args.source.now.tokens.now) (drop c.accept.new.at c.args.source.now.tokens.now) (c.accept.ensures.stands.0 c.if-accept.true) (c.accept.ensures.passed c.if-accept.true)

pub items-preserved-then-accept : goal.items-preserved-then-accept
items-preserved-then-accept c = up_to_between c.items.invariant (c.accept.ensures.stands.0 c.if-accept.true) (c.accept.ensures.passed c.if-accept.true)

pub returns-in_err-item-clause-err : goal.returns-in_err-item-clause-err
returns-in_err-item-clause-err c =
    let other : front (drop c.items.at c.args.source.now.tokens.now) ≢ Front.SemiSemi = other_stands c.accept.ensures.stands c.if-accept.false in
    let here = ap (λ k. drop k c.args.source.now.tokens.now) (c.accept.ensures.stays other) in
    relay _ _ _ (up_to_fails c.args.source.now.tokens.now c.items.at c.items.invariant c.items-test.true other here) c.in_err-item.ensures.err c.from_residual.ensures.1

pub items-smaller : goal.items-smaller
items-smaller c =
    let other : front (drop c.items.at c.args.source.now.tokens.now) ≢ Front.SemiSemi = other_stands c.accept.ensures.stands c.if-accept.false in
    item_shorter (ap (λ k. drop k c.args.source.now.tokens.now) (c.accept.ensures.stays other)) c.in_ok-item.ensures.ok

pub items-preserved : goal.items-preserved
items-preserved c =
    let other : front (drop c.items.at c.args.source.now.tokens.now) ≢ Front.SemiSemi = other_stands c.accept.ensures.stands c.if-accept.false in
    up_to_step c.items.invariant (ap (λ k. drop k c.args.source.now.tokens.now) (c.accept.ensures.stays other)) c.in_ok-item.ensures.ok c.in_ok-push.ensures.ok

pub returns-clause-ok : goal.returns-clause-ok
returns-clause-ok c = up_to_done c.args.source.now.tokens.now c.items.at c.items.invariant c.items-test.false
