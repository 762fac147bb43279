-- The rows of an input in order, by their handles.
--     lists_of columns      the cells of each column
--     cell_in columns place handle      the cell of a row at the place of a sort column
--     kept_cells by cells handle      the sort cells that are kept of a row
--     row_entry by cells row      the entry of a row, by its key and what is kept
--     entry_in ranking handle      the entry of the row with a handle
--     listed ranking      the entries of all rows, in order
--     HasArrived ranking row entry      a row has its handle and its cells, and this is its entry
--     IsSettled ranking      the rows with handles are those in the order
use Rattle.std.{specs.Prelude.{◌≡◌, ℕ, suc, List, [], ◌∷◌, Some, IsSome, map, slice_index_or, unwrap_or, ℤ}, specs.List.AllByRecursion, specs.Global.Vec}
use Rattle.key_lists.specs.Keys.{IsRising, is_among}
use Rattle.row_handles.specs.Entries.{Entry as Handled, key_with, keys_of}
use Rattle.tick_model.{specs.declared.plan.SortBy.SortBy, specs.Tables.cell}
use Rattle.sort_op.{specs.declared.entry.Entry.Entry, specs.declared.row_order.OrderedRow.OrderedRow, specs.Entries.{Rises, keys_in}}

abbrev pub lists_of : List (Vec ℤ) → List (List ℤ)
lists_of = map (λ column. column.items)

abbrev pub cell_in : List (List ℤ) → ℕ → ℕ → ℤ
cell_in columns place handle = cell (slice_index_or columns place []) handle

abbrev pub cells_from : ℕ → List SortBy → List (List ℤ) → ℕ → List ℤ
cells_from place [] cells handle = []
cells_from place (sort ∷ by) cells handle = cell_in cells place handle ∷ cells_from (suc place) by cells handle

abbrev pub kept_cells : List SortBy → List (List ℤ) → ℕ → List ℤ
kept_cells = cells_from 0

abbrev pub row_entry : List SortBy → List (List ℤ) → OrderedRow → Entry
row_entry by cells row = record { cells = kept_cells by cells row.handle; key = row.key }

-- rows with their handles and their cells, and the handles in the order of the rows
pub record Ranking : Type 0 where
  pub by : List SortBy
  pub handles : List Handled
  pub cells : List (List ℤ)
  pub rows : List ℕ

abbrev pub key_in : List Handled → ℕ → ℕ
key_in handles handle = unwrap_or (key_with handle handles) 0

abbrev pub entry_in : Ranking → ℕ → Entry
entry_in ranking handle = record { cells = kept_cells ranking.by ranking.cells handle; key = key_in ranking.handles handle }

abbrev pub listed : Ranking → List Entry
listed ranking = map (entry_in ranking) ranking.rows

abbrev pub arrived : Ranking → OrderedRow → Entry
arrived ranking = row_entry ranking.by ranking.cells

pub record HasArrived (ranking : Ranking) (row : OrderedRow) (entry : Entry) : Type 0 where
  pub known : key_with row.handle ranking.handles ≡ Some row.key
  pub same : arrived ranking row ≡ entry

pub record AreArrived (ranking : Ranking) (rows : List OrderedRow) (entries : List Entry) : Type 0 where
  pub known : AllByRecursion (λ row. key_with row.handle ranking.handles ≡ Some row.key) rows
  pub same : map (arrived ranking) rows ≡ entries

-- the rows rise, and each has a key; the keys rise too
pub record IsRanking (ranking : Ranking) : Type 0 where
  pub known : AllByRecursion (λ handle. IsSome (key_with handle ranking.handles)) ranking.rows
  pub rising : Rises ranking.by (listed ranking)
  pub keys : IsRising (keys_of ranking.handles)

abbrev pub IsSettled : Ranking → Type 0
IsSettled ranking = (key : ℕ) → is_among key (keys_of ranking.handles) ≡ is_among key (keys_in (listed ranking))
