-- Why a range cannot stand behind those of a shift.
--     push_fault shifts begin end delta      the first cause, if there is one
use Rattle.std.{specs.Prelude.{ℕ, ◌-◌, List, length, Option, Some, None, slice_get, nat_lt, nat_le, if◌then◌else◌, ℤ, pos}, specs.Option.option_or, specs.Ordering.int_eq}
use Rattle.tick_model.specs.declared.update.ShiftRange.{ShiftRange}
use Rattle.shift_data.{specs.declared.shifts.ShiftFault.ShiftFault, specs.declared.shifts.ShiftFault.TheVariants.{Backward, NotAscending, ZeroDelta}}

-- a range that begins here is not past the last one
abbrev pub not_past : Option ShiftRange → ℕ → Option ShiftFault
not_past None begin = None
not_past (Some range) begin = if nat_le begin range.end then Some (NotAscending range.end begin) else None

abbrev pub push_fault : List ShiftRange → ℕ → ℕ → ℤ → Option ShiftFault
push_fault shifts begin end delta =
    if nat_lt end begin then Some Backward
    else option_or (not_past (slice_get shifts (length shifts - 1)) begin) (if int_eq delta (pos 0) then Some ZeroDelta else None)
