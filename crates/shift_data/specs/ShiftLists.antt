-- Lists of shift ranges.
--     IsShiftList shifts      the ranges ascend, are disjoint, move their rows, and are ranges of keys
--     offset_by by shifts      both ends of each range, by keys higher
use Rattle.std.{specs.Prelude.{ℕ, ◌+◌, ◌^◌, List, map}, specs.List.AllByRecursion}
use Rattle.tick_model.{specs.declared.update.ShiftRange.ShiftRange, specs.Printable.{IsShift, IsShiftRange}}

pub record IsShiftList (shifts : List ShiftRange) : Type 0 where
  pub apart : IsShift shifts
  pub small : AllByRecursion (IsShiftRange (2 ^ 62)) shifts

abbrev pub offset_range : ℕ → ShiftRange → ShiftRange
offset_range by range = record range { begin = range.begin + by; end = range.end + by }

abbrev pub offset_by : ℕ → List ShiftRange → List ShiftRange
offset_by by = map (offset_range by)
