-- The first that passes stands at its place.
use Rattle.std.proofs.Common.{◌∙◌, sym, ap, option_map}
use Rattle.x64_table.specs.Machine.{is_code}
use Rattle.x64_table.specs.View.{loaded_of}
use Rattle.x64_table.proofs.Lookup.{found_some, found_none}
use Rattle.x64_table.proofs.memory.code.Goals as goal

pub returns-in-Some : goal.returns-in-Some
returns-in-Some c =
    ap (option_map loaded_of) c.segment_at.ensures ∙ sym (found_some (is_code c.args.a) c.args.segments.now c.in-Some.k c.in-Some.ensures)

pub returns-in-None : goal.returns-in-None
returns-in-None c = sym (found_none (is_code c.args.a) c.args.segments.now c.in-None.ensures)
