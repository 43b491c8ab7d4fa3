-- The shelf and the sink that lie in memory, as the outside is seen.
use Rattle.std.specs.Prelude.{◌≡◌, ℕ, ◌+◌, ◌-◌, ◌^◌, ◌⊎◌, min, Bool, true, Option, Result, List, IsTrue, IsNone, IfOk, IfErr, option_map, string_bytes}
use Rattle.std.specs.BTreeMap.{get_by_text}
use Rattle.std.specs.List.{list_any}
use Rattle.std.specs.Bool.{nat_eq}
use Rattle.oxml_base.specs.Outside.{ShelfView}
use Rattle.oxml_base.specs.declared.errors.LoadErr.{LoadErr}
use Rattle.oxml_base.specs.declared.errors.LoadErr.TheVariants.{TooLong}
use Rattle.oxml_base.specs.declared.errors.SaveErr.{SaveErr}
use Rattle.oxml_base.specs.declared.mem_shelf.MemShelf.{MemShelf}

-- the bytes that it holds under a name
abbrev pub held_in : MemShelf → List ℕ → Option (List ℕ)
held_in shelf name = option_map (λ bytes. bytes.items) (get_by_text shelf.files name)

abbrev pub shelf_view : MemShelf → ShelfView
shelf_view shelf = record {
  tells = true;
  held = held_in shelf;
  faults = shelf.faults;
  last_fault = record { call = shelf.last_fault.call; name = string_bytes shelf.last_fault.name };
}

-- the next call of the shelf is one that is to fail
abbrev pub shelf_call_fails : MemShelf → Bool
shelf_call_fails shelf = list_any (λ call. nat_eq call shelf.calls) shelf.fail.items

-- a call that is to fail failed, unless memory ran out
abbrev pub IsFailedLoad : {T : Type 0} → Result T LoadErr → Type 0
IsFailedLoad result = IfOk result (λ _. ⊥) × IfErr result (λ error. (error ≡ TooLong) → ⊥)

abbrev pub IsFailedSave : {T : Type 0} → Result T SaveErr → Type 0
IsFailedSave result = IfOk result (λ _. ⊥)

-- a load of this name may fail: it is on the list, or the name is not held
abbrev pub MayFailLoad : MemShelf → List ℕ → Type 0
MayFailLoad shelf name = IsTrue (shelf_call_fails shelf) ⊎ IsNone (held_in shelf name)

-- a call was counted, and the list stays
pub record CountsCall (old new : MemShelf) : Type 0 where
  pub calls : new.calls ≡ min (old.calls + 1) (2 ^ 64 - 1)
  pub fail : new.fail ≡ old.fail
