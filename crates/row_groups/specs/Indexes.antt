-- The rows by their handles and by their groups.
use Rattle.std.{specs.Prelude.{List, map, option_map}, specs.List.AllByRecursion}
use Rattle.row_handles.specs.Entries.{Entry, AreHandled}
use Rattle.row_groups.{specs.declared.index.GroupIndex.GroupIndex, specs.declared.lists.KeyedRows.KeyedRows, specs.Members.{Grouped, Names, Numbered, with_names}, specs.Rows.{AreListed, AreNumbered, ByNumber, IsKept, members_of, rows_of}}

-- the groups are those of these rows, which are among those that have handles
pub record Holds (entries : List Entry) (index : GroupIndex) : Type 0 where
  pub handled : AreHandled index.handles
  pub kept : AllByRecursion (λ entry. IsKept index.width index.table index.lists.groups entry.handle) entries
  pub listed : AreListed (rows_of index.table index.lists.groups entries) index.lists
  pub numbered : AreNumbered index.lists

abbrev pub IsIndex : GroupIndex → Type 0
IsIndex index = Holds index.handles index

abbrev pub grouped_of : GroupIndex → Grouped
grouped_of index = record { width = index.width; members = members_of (rows_of index.table index.lists.groups index.handles) }

abbrev pub names_of : ByNumber → Names
names_of groups = map (option_map (λ (group : KeyedRows). group.cells.items)) groups.slots

abbrev pub numbered_of : GroupIndex → Numbered
numbered_of index = with_names (names_of index.lists.groups) (grouped_of index)
