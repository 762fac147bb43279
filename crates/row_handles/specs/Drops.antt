-- Rows that leave.
--     is_between first last key      whether the key is one of those from first to last
--     outside first last entries      the rows under none of these keys
--     left_by ranges entries      the rows of no range, left out range by range
use Rattle.std.{specs.Prelude.{ℕ, ◌≡◌, ◌&&◌, Bool, false, not, nat_le, List, [], ◌∷◌, filter}, specs.List.AllByRecursion}
use Rattle.row_set.specs.declared.ranges.Range.{Range}
use Rattle.row_handles.specs.Entries.{Entry}

abbrev pub is_between : ℕ → ℕ → ℕ → Bool
is_between first last key = nat_le first key && nat_le key last

abbrev pub outside : ℕ → ℕ → List Entry → List Entry
outside first last = filter (λ entry. not (is_between first last entry.key))

abbrev pub left_by : List Range → List Entry → List Entry
left_by [] entries = entries
left_by (range ∷ ranges) entries = left_by ranges (outside range.first range.last entries)

-- none of the rows is under a key from first to last
abbrev pub AreOutside : ℕ → ℕ → List Entry → Type 0
AreOutside first last = AllByRecursion (λ entry. is_between first last entry.key ≡ false)
