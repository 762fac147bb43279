-- What is kept of the rows, and the rows of a group in order.
--     cells_with number groups, slots_numbered number groups      the key cells of the group with a number, and its list
--     number_under cells numbers      the number of the group with these key cells
--     place_in cells by_cell, number_below above      the place of some cells in the list of numbers, and the number for which a number stands there
--     rows_of table groups entries      the rows, each with what is kept of it
--     group_rows cells rows      the rows of a group in order
--     slots_under cells lists      the list that is kept of a group
use Rattle.std.{specs.Prelude.{ℕ, ◌-◌, ◌<◌, ◌≤◌, ◌≡◌, ◌==◌, false, int_lt, nat_lt, List, [], ◌∷◌, Option, None, Some, IsSome, filter, length, map, option_map, slice_index_or, unwrap_or, ℤ, pos, if◌then◌else◌}, specs.Option.option_map_or, specs.HashMap.get_by}
use Rattle.slab.specs.Slab.{Slab, get}
use Rattle.tick_model.specs.Tables.{same_cells}
use Rattle.row_handles.specs.Entries.{Entry}
use Rattle.row_groups.{specs.declared.lists.KeyedRows.KeyedRows, specs.declared.lists.Lists.Lists, specs.declared.numbers.GroupNumbers.GroupNumbers, specs.declared.place.GroupRow.GroupRow, specs.declared.table.Table.Table, specs.Kept.{at_in, kept_in}, specs.Members.{Member, member_of}}

abbrev pub ByNumber : Type 0
ByNumber = Slab KeyedRows

abbrev pub cells_with : ℕ → ByNumber → Option (List ℤ)
cells_with number groups = option_map (λ group. group.cells.items) (get groups number)

abbrev pub slots_numbered : ℕ → ByNumber → List GroupRow
slots_numbered number groups = option_map_or (λ group. group.rows) (get groups number) []

abbrev pub single_cell : List ℤ → Option ℕ
single_cell (pos n ∷ []) = Some n
single_cell _ = None

-- a cell that is alone and below the length of the list is a place in it
abbrev pub place_in : List ℤ → List ℕ → Option ℕ
place_in cells by_cell = option_map_or (λ n. if nat_lt n (length by_cell) then Some n else None) (single_cell cells) None

abbrev pub number_below : ℕ → Option ℕ
number_below above = if above == 0 then None else Some (above - 1)

abbrev pub number_under : List ℤ → GroupNumbers → Option ℕ
number_under cells numbers = option_map_or (λ place. number_below (slice_index_or numbers.by_cell.items place 0)) (place_in cells numbers.by_cell.items) (get_by (λ key. same_cells cells key.items) numbers.by_cells)

-- only these cells lead to another number, or to none
abbrev pub Leads : List ℤ → Option ℕ → GroupNumbers → GroupNumbers → Type 0
Leads cells number old new = (other : List ℤ) → number_under other new ≡ (if same_cells cells other then number else number_under other old)

-- the key cells of the group of a row
abbrev pub cells_in : Table → ByNumber → ℕ → List ℤ
cells_in table groups handle = unwrap_or (cells_with (kept_in table handle).number groups) []

-- what is kept under the handle names a group, whose cells are so many
pub record IsKept (count : ℕ) (table : Table) (groups : ByNumber) (handle : ℕ) : Type 0 where
  pub within : handle < length table.numbers.items
  pub there : IsSome (cells_with (kept_in table handle).number groups)
  pub width : length (cells_in table groups handle) ≡ count

-- what is kept under the handle stays
pub record IsSame (old : Table) (groups : ByNumber) (new : Table) (others : ByNumber) (handle : ℕ) : Type 0 where
  pub within : handle < length new.numbers.items
  pub cells : cells_with (kept_in new handle).number others ≡ cells_with (kept_in old handle).number groups
  pub at : at_in new handle ≡ at_in old handle

-- a row with its handle
pub record Row : Type 0 where
  pub member : Member
  pub handle : ℕ

abbrev pub row_of : Table → ByNumber → Entry → Row
row_of table groups entry = record { member = member_of entry.key (cells_in table groups entry.handle) (at_in table entry.handle); handle = entry.handle }

abbrev pub rows_of : Table → ByNumber → List Entry → List Row
rows_of table groups = map (row_of table groups)

abbrev pub members_of : List Row → List Member
members_of = map (λ row. row.member)

abbrev pub row_placed : Row → List Row → List Row
row_placed row [] = row ∷ []
row_placed row (other ∷ others) = if int_lt other.member.at row.member.at then other ∷ row_placed row others else row ∷ other ∷ others

abbrev pub rows_by_at : List Row → List Row
rows_by_at [] = []
rows_by_at (row ∷ rows) = row_placed row (rows_by_at rows)

abbrev pub group_rows : List ℤ → List Row → List Row
group_rows cells rows = rows_by_at (filter (λ row. same_cells cells row.member.cells) rows)

abbrev pub slot_of : Row → GroupRow
slot_of row = record { handle = row.handle }

abbrev pub slots_under : List ℤ → Lists → List GroupRow
slots_under cells lists = option_map_or (λ number. slots_numbered number lists.groups) (number_under cells lists.numbers) []

-- the cells lead to the numbers of the groups that have them, and no list has two rows before a row came to one that was there
pub record AreNumbered (lists : Lists) : Type 0 where
  pub numbers : (cells : List ℤ) (number : ℕ) → number_under cells lists.numbers ≡ Some number → cells_with number lists.groups ≡ Some cells
  pub cells : (cells : List ℤ) (number : ℕ) → cells_with number lists.groups ≡ Some cells → number_under cells lists.numbers ≡ Some number
  pub alone : lists.crowded ≡ false → (cells : List ℤ) → length (slots_under cells lists) ≤ 1

-- only the list under these cells is another
abbrev pub Becomes : List ℤ → List GroupRow → Lists → Lists → Type 0
Becomes cells slots old new = (other : List ℤ) → slots_under other new ≡ (if same_cells cells other then slots else slots_under other old)

-- the lists are those of the groups
abbrev pub AreListed : List Row → Lists → Type 0
AreListed rows lists = (cells : List ℤ) → slots_under cells lists ≡ map slot_of (group_rows cells rows)
