use Rattle.std.proofs.Common.{◌≡◌, ◌+◌, ◌-◌, ◌<◌, not, map, find, List, ◌∷◌, [], ◌++◌, ap, sym, subst, ◌∙◌, arith, refl}
use Rattle.std.specs.List.{range_with_len}
use Rattle.std.proofs.lemmas.Result.{err_from_is_err_and}
use Rattle.x64_table.specs.declared.image.Segment.{Segment}
use Rattle.elf_image.specs.Fields.{header_at}
use Rattle.elf_image.specs.Load.{is_good, segment_at, header_count, end_of}
use Rattle.elf_image.proofs.Reading.{end_below, find_next, find_here, map_next, end_before-next}
use Rattle.elf_image.proofs.loader.read_segments.Goals as goal

pub loop-n-init : goal.loop-n-init
loop-n-init c =
    let bytes = c.args.bytes.now in
    let e : header_count bytes - 0 ≡ header_count bytes = omega arith in
    record {
      refused = ap (λ k. find (λ n. not (is_good bytes n)) (range_with_len 0 k)) e;
      segments =
          ap (λ (xs : List Segment). xs ++ map (segment_at bytes) (range_with_len 0 (header_count bytes - 0))) c.new-segments.ensures
          ∙ ap (λ k. map (segment_at bytes) (range_with_len 0 k)) e;
      end = refl;
    }

pub returns-in_err-segment-clause-refused : goal.returns-in_err-segment-clause-refused
returns-in_err-segment-clause-refused c =
    let p = err_from_is_err_and c.from_residual.result c.from_residual.ensures.1 in
    let bytes = c.args.bytes.now in
    let n = c.loop-n.n in
    let more = subst (λ k. n < k) c.half_at-n-end.ensures c.loop-n-test.true in
    rw (p.1, p.2) (λ other. let bad = c.in_err-segment.ensures.refused other in (n, sym c.loop-n.invariant.refused ∙ find_here (is_good bytes) n (header_count bytes) more bad.0, bad.1))

pub overflow_add-end : goal.overflow_add-end
overflow_add-end c =
    let good = c.in_ok-segment.ensures.good in
    let below = end_below c.args.bytes.now c.loop-n.n good.0 in
    let same : c.in_ok-segment.segment.at + c.in_ok-segment.segment.size ≡ end_of (header_at c.args.bytes.now c.loop-n.n) = ap (λ (s : Segment). s.at + s.size) good.1 in
    omega arith

pub loop-n-preserved : goal.loop-n-preserved
loop-n-preserved c =
    let bytes = c.args.bytes.now in
    let n = c.loop-n.n in
    let good = c.in_ok-segment.ensures.good in
    let more = subst (λ k. n < k) c.half_at-n-end.ensures c.loop-n-test.true in
    record {
      refused = sym (find_next (is_good bytes) n (header_count bytes) more good.0) ∙ c.loop-n.invariant.refused;
      segments =
          ap (λ (xs : List Segment). xs ++ map (segment_at bytes) (range_with_len (n + 1) (header_count bytes - (n + 1)))) (c.in_ok-push.ensures.ok ∙ ap (λ (s : Segment). c.loop-n.segments ++ s ∷ []) good.1)
          ∙ (map_next (segment_at bytes) c.loop-n.segments n (header_count bytes) more ∙ c.loop-n.invariant.segments);
      end = ap (λ (s : Segment). s.at + s.size) good.1 ∙ sym (end_before-next bytes n);
    }
