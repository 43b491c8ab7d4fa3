use Rattle.std.proofs.Common.{◌≡◌, ◌++◌, ◌-◌, not, map, find}
use Rattle.std.specs.List.{range_with_len}
use Rattle.elf_image.specs.Load.{is_good, segment_at, end_before, header_count, refused_segment, image_at}
use Rattle.elf_image.proofs.loader.read_segments.Given as goal

abbrev pub invariant-loop-n : goal.invariant-loop-n
invariant-loop-n l = record {
  refused : find (λ n. not (is_good l.bytes n)) (range_with_len l.n (header_count l.bytes - l.n)) ≡ refused_segment l.bytes;
  segments : l.segments ++ map (segment_at l.bytes) (range_with_len l.n (header_count l.bytes - l.n)) ≡ (image_at l.bytes).segments;
  end : l.end ≡ end_before l.bytes l.n;
}
