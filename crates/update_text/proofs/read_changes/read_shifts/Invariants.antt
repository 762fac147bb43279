use Rattle.std.proofs.Common.{◌≡◌, ℕ, List, ◌++◌, ◌^◌, length}
use Rattle.tick_model.{specs.declared.update.ShiftRange.ShiftRange, specs.Printable.{IsShift, IsShiftRange}, specs.Texts.shift_record}
use Rattle.update_text.specs.Reading.{AreAhead}
use Rattle.update_text.proofs.read_changes.read_shifts.Given as goal

-- the ranges so far, and those that are still to come of those that are told
abbrev pub invariant-loop-fields : goal.invariant-loop-fields
invariant-loop-fields l =
    (ranges : List ShiftRange) (rest : List ℕ) → IsShift ranges → AreAhead shift_record (IsShiftRange (2 ^ 62)) 115 ranges rest l.fn.bytes →
    (todo : List ShiftRange) × AreAhead shift_record (IsShiftRange (2 ^ 62)) 115 todo rest l.rest × (l.shifts ++ todo ≡ ranges)

abbrev pub decreases-loop-fields : goal.decreases-loop-fields
decreases-loop-fields l = length l.rest
