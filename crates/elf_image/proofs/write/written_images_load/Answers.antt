use Rattle.elf_image.proofs.Memory.{loaded-file_of}
use Rattle.elf_image.proofs.write.written_images_load.Goals as goal

pub returns : goal.returns
returns c = loaded-file_of
