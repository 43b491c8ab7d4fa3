use Rattle.std.proofs.Common.{◌≡◌, sym, subst, OnOk, map}
use Rattle.ml_scope.specs.Journal.{each}
use Rattle.ml_scope.specs.Patterns.{pattern_kind_seen, field_pattern_seen}
use Rattle.ml_scope.proofs.Layers.{record_look}
use Rattle.ml_scope.proofs.patterns.+patterns.Goals as goal

pub pattern_kind-returns-in_ok-record_pattern-in-Fields-clause-journal : goal.pattern_kind-returns-in_ok-record_pattern-in-Fields-clause-journal
pattern_kind-returns-in_ok-record_pattern-in-Fields-clause-journal t c =
    let same : each (map (λ q. q.look) (map (field_pattern_seen c.args.known.now) c.as_slice-in-Fields.result.now)) c.record_pattern.new.journal ≡ (pattern_kind_seen c.args.known.now c.args.kind.now).look c.args.id c.args.span c.args.journal.now =
    rw (c.in-Fields.is, c.as_slice-in-Fields.ensures, c.in_ok-record_pattern-in-Fields.ensures, c.as_slice.ensures) (sym (record_look c.args.known.now c.args.id c.args.span c.in-Fields.list c.in-Fields.rest c.args.journal.now)) in
    subst (λ x. OnOk c.fields.result (c.fields.new.journal ≡ x)) same c.fields.ensures.journal
