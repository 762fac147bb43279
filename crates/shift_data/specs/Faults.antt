-- Where a shift breaks the order of keys, part by part.
--     breaks broken      the fault that two keys show
--     past_fault limit part keys      the least key of the part that moves past the limit
--     fault_in limit before part keys      the fault that the part shows behind the one before it
use Rattle.std.{specs.Prelude.{ℕ, ◌-◌, ◌^◌, ◌<◌, List, Option, Some, None, find, option_map, ℤ, pos, negsuc, ◌+ℤ◌, ◌<ℤ◌, int_le, if◌then◌else◌}, specs.Option.option_or}
use Rattle.tick_model.{specs.declared.update.UpdateFault.UpdateFault, specs.declared.update.UpdateFault.TheVariants.ShiftBreaks, specs.Rules.is_past}
use Rattle.shift_data.{specs.declared.parts.Part.Part, specs.declared.shifts.Broken.Broken, specs.Parts.within}

abbrev pub breaks : Broken → UpdateFault
breaks broken = ShiftBreaks broken.first broken.second

-- the part's last key has a place that a number of 64 bits holds
pub record IsPlaced (part : Part) : Type 0 where
  pub first : part.first < 2 ^ 62
  pub last : part.last < 2 ^ 62
  pub up : part.delta <ℤ pos (2 ^ 62)
  pub down : negsuc (2 ^ 62 - 1) <ℤ part.delta

abbrev pub past_fault : ℕ → Part → List ℕ → Option UpdateFault
past_fault limit part keys = option_map (λ key. ShiftBreaks key key) (find (λ key. is_past limit (pos key +ℤ part.delta)) (within part.first part.last keys))

-- a part that begins at a place does not go past the part before it
abbrev pub falls : Option Part → ℤ → ℕ → Option UpdateFault
falls None place first = None
falls (Some before) place first = if int_le place (pos before.last +ℤ before.delta) then Some (ShiftBreaks before.last first) else None

abbrev pub fault_in : ℕ → Option Part → Part → List ℕ → Option UpdateFault
fault_in limit before part keys =
    if is_past limit (pos part.first +ℤ part.delta) then Some (ShiftBreaks part.first part.first)
    else option_or (falls before (pos part.first +ℤ part.delta) part.first) (past_fault limit part keys)
