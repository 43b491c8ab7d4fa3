use Rattle.std.proofs.Common.{◌+◌, ◌-◌, ◌*◌, length, drop, ap, ◌∙◌, arith, length-drop}
use Rattle.std.proofs.lemmas.List.{take_all}
use Rattle.elf_image.specs.Fields.{read_header}
use Rattle.elf_image.proofs.fields.header_at.Goals as goal

pub returns : goal.returns
returns c =
    let bytes = c.args.bytes.now in
    let place = 64 + 56 * c.args.n in
    c.read_header.ensures ∙ ap read_header (take_all (length bytes - place) (drop place bytes) (omega (arith, length-drop place bytes)))
