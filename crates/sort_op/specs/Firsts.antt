-- Rows by their first sort cells, which are compared before all others.
--     ranked sort cell      a cell as it ranks in a sort column, the lower first: itself, or its opposite where the column descends
--     first_rank by cells handle      the first sort cell of a row as it ranks, or null where there is no sort column
--     coming_of by cells row      a row by its first sort cell
--     rows_in coming      the rows
--     coming_cmp by cells a b      how a row stands to another: by the first sort cells, and then as an entry
use Rattle.std.{specs.Prelude.{ℕ, List, map, slice_get, ℤ, negsuc, ◌-ℤ◌, if◌then◌else◌}, specs.Option.option_map_or, specs.Ordering.{int_cmp, ordering_then}, specs.declared.cmp.Ordering.Ordering}
use Rattle.tick_model.{specs.declared.plan.SortBy.SortBy, specs.Tables.null}
use Rattle.sort_op.{specs.declared.arrivals.Coming.Coming, specs.declared.row_order.OrderedRow.OrderedRow, specs.Entries.entry_cmp, specs.Ranks.{cell_in, row_entry}}

abbrev pub ranked : SortBy → ℤ → ℤ
ranked sort cell = if sort.descending then negsuc 0 -ℤ cell else cell

abbrev pub first_rank : List SortBy → List (List ℤ) → ℕ → ℤ
first_rank by cells handle = option_map_or (λ sort. ranked sort (cell_in cells 0 handle)) (slice_get by 0) null

abbrev pub coming_of : List SortBy → List (List ℤ) → OrderedRow → Coming
coming_of by cells row = record { first = first_rank by cells row.handle; row = row }

abbrev pub rows_in : List Coming → List OrderedRow
rows_in = map (λ coming. coming.row)

abbrev pub coming_cmp : List SortBy → List (List ℤ) → Coming → Coming → Ordering
coming_cmp by cells a b = ordering_then (int_cmp a.first b.first) (entry_cmp by (row_entry by cells a.row) (row_entry by cells b.row))
