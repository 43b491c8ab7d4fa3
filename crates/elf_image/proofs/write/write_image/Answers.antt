use Rattle.std.proofs.Common.{◌≡◌, ap, sym, ◌∙◌}
use Rattle.elf_image.specs.Layout.{file_of}
use Rattle.elf_image.specs.Load.{loaded}
use Rattle.elf_image.proofs.Memory.{loaded-file_of}
use Rattle.elf_image.proofs.Writing.{file_with-parts, file_with-same}
use Rattle.elf_image.proofs.write.write_image.Goals as goal

made : (c : goal.After-drop-headers-2) → c.write_data.new.file.items ≡ file_of c.args.c.now c.args.sizes
unfolding file_of
made c =
    let headers_are = c.as_slice.ensures.value ∙ c.in_ok-headers.ensures in
    let bytes_are = c.as_slice-2.ensures in
    file_with-parts c.as_slice.result.now c.as_slice-2.result.now _ _ _ _ _ _ _ _ _ _ _
    c.in_ok-file.ensures.items c.file_header.ensures (c.len-2.ensures ∙ sym c.as_slice.ensures.len) c.in_ok-extend_from_slice.ensures.items c.in_ok-write_headers.ensures c.in_ok-pad.ensures c.in_ok-extend_from_slice-2.ensures.items c.in_ok-pad-2.ensures c.in_ok-write_data.ensures
    ∙ file_with-same _ _ _ _ c.as_slice-3.result.now _ _ _ headers_are bytes_are c.as_slice-3.ensures c.data_place-place.ensures

pub returns-clause-file : goal.returns-clause-file
returns-clause-file c = made c

pub returns-clause-loads : goal.returns-clause-loads
returns-clause-loads c = ap loaded (made c) ∙ loaded-file_of c.args.c.now c.args.sizes c.requires
