-- The machine of the program, seen as a state.
use Rattle.std.specs.Prelude.{List, map}
use Rattle.x64_table.specs.declared.cpu.Cpu.{Cpu}
use Rattle.x64_table.specs.declared.memory.Mapped.{Mapped}
use Rattle.x64_table.specs.Machine.{Loaded, State}

abbrev pub loaded_of : Mapped → Loaded
loaded_of m = record { at = m.at; flags = m.flags; bytes = m.bytes.items }

abbrev pub loaded : List Mapped → List Loaded
loaded segments = map loaded_of segments

abbrev pub state : Cpu → List Mapped → State
state cpu segments = record { cpu = cpu; segments = loaded segments }
