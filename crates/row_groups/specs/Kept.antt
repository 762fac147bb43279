-- What is kept of each row by its handle.
--     kept_in table handle      what is kept under a handle
use Rattle.std.specs.Prelude.{ℕ, ◌<◌, ◌≢◌, length, slice_index_or, ℤ, pos}
use Rattle.row_groups.{specs.declared.table.GroupMember.GroupMember, specs.declared.table.Table.Table}

abbrev pub kept_in : Table → ℕ → GroupMember
kept_in table handle = record { number = slice_index_or table.numbers.items handle 0; at = slice_index_or table.ats.items handle (pos 0) }

abbrev pub at_in : Table → ℕ → ℤ
at_in table handle = (kept_in table handle).at

-- what can be kept under a handle: an `at` of 0 needs no room of its own
pub record HasRoom (table : Table) (handle : ℕ) (at : ℤ) : Type 0 where
  pub within : handle < length table.numbers.items
  pub placed : at ≢ pos 0 → handle < length table.ats.items
