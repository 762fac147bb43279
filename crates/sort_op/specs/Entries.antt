-- Entries in the order of a sort.
--     comes_before by a b      whether an entry stands before another: by the sort columns, and then by key
--     Rises by entries      each stands before those after it
--     Falls by entries      none stands before one after it
--     is_in entry entries      whether an entry is one of some
--     place_of entry entries      the place of an entry
--     found by entry entries      the place of an entry, or else how many stand before it
--     keys_in entries      their keys
--     rekeyed shifts entry      the entry under the key to which its row moves
--     Order, IsOrder order      what an order shows: chunks of 1 to 512 entries, which rise over all chunks
use Rattle.std.{specs.Prelude.{◌≡◌, ℕ, ◌≤◌, ◌==◌, ◌&&◌, Bool, true, false, List, [], ◌∷◌, Option, Result, count_by, length, filter, map, position, nat_lt}, specs.List.{AllByRecursion, list_any}, specs.Option.ok_or, specs.Ordering.{is_lt, nat_cmp, ordering_then}, specs.declared.cmp.Ordering.Ordering}
use Rattle.chunk_list.specs.Chunked.{joined, IsChunk}
use Rattle.tick_model.{specs.declared.plan.SortBy.SortBy, specs.declared.update.ShiftRange.ShiftRange, specs.Shifts.{as_key, moved}, specs.Sort.ordered, specs.Tables.same_cells}
use Rattle.sort_op.{specs.declared.entry.Entry.Entry, specs.Cells.cells_cmp}

abbrev pub entry_cmp : List SortBy → Entry → Entry → Ordering
entry_cmp by a b = ordering_then (cells_cmp by a.cells b.cells) (nat_cmp a.key b.key)

abbrev pub comes_before : List SortBy → Entry → Entry → Bool
comes_before by a b = is_lt (entry_cmp by a b)

abbrev pub Rises : List SortBy → List Entry → Type 0
Rises by [] = Unit {0}
Rises by (entry ∷ entries) = AllByRecursion (λ other. comes_before by entry other ≡ true) entries × Rises by entries

abbrev pub Falls : List SortBy → List Entry → Type 0
Falls by [] = Unit {0}
Falls by (entry ∷ entries) = AllByRecursion (λ other. comes_before by entry other ≡ false) entries × Falls by entries

abbrev pub is_same : Entry → Entry → Bool
is_same a b = (a.key == b.key) && same_cells a.cells b.cells

-- whether an entry is one of some
abbrev pub is_in : Entry → List Entry → Bool
is_in entry = list_any (λ other. is_same other entry)

-- no two of the entries are the same
abbrev pub AreDistinct : List Entry → Type 0
AreDistinct entries = (entry : Entry) → count_by (λ other. is_same other entry) entries ≤ 1

abbrev pub place_of : Entry → List Entry → Option ℕ
place_of entry = position (λ other. is_same other entry)

abbrev pub count_before : List SortBy → Entry → List Entry → ℕ
count_before by entry entries = length (filter (λ other. comes_before by other entry) entries)

abbrev pub found : List SortBy → Entry → List Entry → Result ℕ ℕ
found by entry entries = ok_or (place_of entry entries) (count_before by entry entries)

abbrev pub keys_in : List Entry → List ℕ
keys_in = map (λ entry. entry.key)

-- the keys in rising order
abbrev pub rising_keys : List Entry → List ℕ
rising_keys entries = ordered nat_lt (keys_in entries)

abbrev pub rekeyed : List ShiftRange → Entry → Entry
rekeyed shifts entry = record entry { key = as_key (moved shifts entry.key) }

-- an entry has a cell for each sort column
abbrev pub IsWhole : List SortBy → Entry → Type 0
IsWhole by entry = length entry.cells ≡ length by

pub record Order : Type 0 where
  pub by : List SortBy
  pub chunks : List (List Entry)

abbrev pub entries : Order → List Entry
entries order = joined order.chunks

pub record IsOrder (order : Order) : Type 0 where
  pub rising : Rises order.by (joined order.chunks)
  pub whole : AllByRecursion (IsWhole order.by) (joined order.chunks)
  pub chunks : AllByRecursion IsChunk order.chunks
