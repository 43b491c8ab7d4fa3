use Rattle.std.proofs.Common.{refl, ap, ◌∙◌, arith}
use Rattle.elf_image.specs.Load.{segment_by}
use Rattle.elf_image.proofs.Reading.{is_good-bad_header, is_good-good_header}
use Rattle.elf_image.proofs.loader.read_segment.Goals as goal

pub returns-then-not-is_good_header-clause-refused : goal.returns-then-not-is_good_header-clause-refused
returns-then-not-is_good_header-clause-refused c = λ _. (is_good-bad_header c.args.bytes.now c.args.n c.args.end c.header_at-header.result c.is_good_header.result c.requires.before c.header_at-header.ensures c.is_good_header.ensures c.if-not-is_good_header.true, refl)

pub returns-clause-good : goal.returns-clause-good
returns-clause-good c = (
  is_good-good_header c.args.bytes.now c.args.n c.args.end c.header_at-header.result c.is_good_header.result (omega arith) c.requires.before c.header_at-header.ensures c.is_good_header.ensures c.if-not-is_good_header.false,
  c.in_ok-segment_by.ensures ∙ ap (segment_by c.args.bytes.now) c.header_at-header.ensures,
)
