-- What an evaluation stands in, by the tables that the evaluator has.
use Rattle.std.specs.Prelude.{ℕ, ◌-◌, ◌==◌, List, [], ◌∷◌, Option, Some, None, slice_get, nat_lt, if◌then◌else◌}
use Rattle.std.specs.Option.{option_map}
use Rattle.ml_tree.specs.declared.types.Decl.{Decl}
use Rattle.ml_meaning.specs.declared.event.Event.{Event}
use Rattle.ml_meaning.specs.Values.{Value}
use Rattle.ml_meaning.specs.Programs.{count_in}
use Rattle.ml_meaning.specs.Tellings.{Setting}
use Rattle.ml_words.specs.Named.{targets}
use Rattle.ml_functions.specs.Table.{code_of, function_at}
use Rattle.ml_values.specs.declared.value.Word.{Word}
use Rattle.ml_values.specs.Shown.{value}
use Rattle.ml_steps.specs.declared.world.Written.{Written}
use Rattle.ml_steps.specs.declared.world.World.{World}

-- the written declaration at this place
abbrev pub decl_at : List Written → ℕ → Option Decl
decl_at decls at = option_map (λ w. w.decl.now) (slice_get decls at)

-- How many fields a constructor has. The written declarations are numbered from 7; of those before,
-- the second constructor of the list, 5, has two and that of the option, 6, has one.
abbrev pub predefined_fields : ℕ → ℕ → ℕ
predefined_fields decl place = if place == 1 then (if decl == 5 then 2 else if decl == 6 then 1 else 0) else 0

abbrev pub field_total : List Written → ℕ → ℕ → ℕ
field_total decls decl place = if nat_lt decl 7 then predefined_fields decl place else count_in (decl_at decls (decl - 7)) place

-- the value of a top-level name, where it has one
abbrev pub top_value : Option (Option Word) → Option Value
top_value None = None
top_value (Some word) = option_map value word

abbrev pub setting_of : World → Setting Event
setting_of w = record {
  told = λ e. e ∷ [];
  visit = [];
  names = targets w.tools.scoped.now;
  fields = field_total w.decls.now;
  code = λ n. option_map code_of (function_at w.functions.places.now w.functions.list.now n);
  top = λ n. top_value (slice_get w.tops.now n);
  append = w.append;
}
