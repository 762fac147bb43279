-- The order of sort cells, which stand in the order of the sort columns.
--     cells_cmp by xs ys      how cells stand to others, by the first sort column in which they differ
use Rattle.std.{specs.Prelude.{List, [], ◌∷◌, drop, ℤ}, specs.Ordering.ordering_then, specs.declared.cmp.Ordering.Ordering, specs.declared.cmp.Ordering.TheVariants.Equal}
use Rattle.tick_model.{specs.declared.plan.SortBy.SortBy, specs.Tables.cell, specs.Sort.column_cmp}

abbrev pub cells_cmp : List SortBy → List ℤ → List ℤ → Ordering
cells_cmp [] xs ys = Equal
cells_cmp (sort ∷ by) xs ys = ordering_then (column_cmp sort (cell xs 0) (cell ys 0)) (cells_cmp by (drop 1 xs) (drop 1 ys))
