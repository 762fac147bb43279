-- The rules of an update, in the order in which they are tried.
--     shift_fault limit shifts keys      the least key that a shift leads past the limit, or not past the one before it
--     update_fault limit old update      the first rule that an update of a table with these keys breaks, with the least key that shows it
use Rattle.std.{specs.Prelude.{ℕ, Bool, not, List, [], ◌∷◌, ◌++◌, Option, Some, None, map, find, ℤ, pos, int_lt, int_le, option_map, ◌||◌, if◌then◌else◌}, specs.Option.option_or}
use Rattle.key_lists.specs.Keys.{is_among, without}
use Rattle.tick_model.{specs.declared.update.ShiftRange.ShiftRange, specs.declared.update.UpdateFault.UpdateFault, specs.declared.update.UpdateFault.TheVariants.{RemovedAbsent, ShiftBreaks, AddedTaken, ModifiedAbsent, ModifiedAdded}, specs.Shifts.{moved, as_key}, specs.Updates.Update}

-- a number that is no key below the limit
abbrev pub is_past : ℕ → ℤ → Bool
is_past limit place = int_lt place (pos 0) || int_le (pos limit) place

-- the keys rise; `before` is the one before the first of them
abbrev pub shift_fault_after : ℕ → List ShiftRange → Option ℕ → List ℕ → Option UpdateFault
shift_fault_after limit shifts before [] = None
shift_fault_after limit shifts None (key ∷ others) =
    if is_past limit (moved shifts key) then Some (ShiftBreaks key key) else shift_fault_after limit shifts (Some key) others
shift_fault_after limit shifts (Some before) (key ∷ others) =
    if is_past limit (moved shifts key) then Some (ShiftBreaks key key)
    else (if int_le (moved shifts key) (moved shifts before) then Some (ShiftBreaks before key) else shift_fault_after limit shifts (Some key) others)

abbrev pub shift_fault : ℕ → List ShiftRange → List ℕ → Option UpdateFault
shift_fault limit shifts = shift_fault_after limit shifts None

-- the keys to which rows that stay move
abbrev pub landed : List ShiftRange → List ℕ → List ℕ
landed shifts = map (λ key. as_key (moved shifts key))

abbrev pub update_fault : ℕ → List ℕ → Update → Option UpdateFault
update_fault limit old update =
    let survivors = without update.removed old in
    let moved_keys = landed update.shifted survivors in
    option_or (option_map RemovedAbsent (find (λ key. not (is_among key old)) update.removed))
    (option_or (shift_fault limit update.shifted survivors)
    (option_or (option_map AddedTaken (find (λ key. is_among key moved_keys) update.added))
    (option_or (option_map ModifiedAbsent (find (λ key. not (is_among key (moved_keys ++ update.added))) update.modified))
    (option_map ModifiedAdded (find (λ key. is_among key update.added) update.modified)))))
