-- One row for each group of rows with equal key cells, under the key of its first row.
use Rattle.std.{specs.Prelude.{Option, Some, unwrap_or, if◌then◌else◌, ℕ, ◌+◌, ◌==◌, Bool, false, not, List, [], ◌∷◌, ◌++◌, map, filter, fold, find, length, ℤ, pos, ◌+ℤ◌}, specs.Option.option_map_or, specs.Int.{int_min, int_max}}
use Rattle.tick_model.{specs.declared.plan.Agg.Agg, specs.declared.plan.Agg.TheVariants.{Count, Sum, Min, Max, First, Last}, specs.declared.table.PlainRow.PlainRow, specs.declared.table.PlainTable.PlainTable, specs.Tables.{null, is_null, cell, cells_at, same_cells}, specs.declared.update.KeyPair.KeyPair, specs.Formulas.wrap, specs.Updates.{Tick, both_in}}

-- the key cells of a row
abbrev pub key_cells : List ℕ → List ℤ → List ℤ
key_cells by cells = map (cell cells) by

-- whether two rows are of one group
abbrev pub same_group : List ℕ → PlainRow → PlainRow → Bool
same_group by row other = same_cells (key_cells by row.cells) (key_cells by other.cells)

abbrev pub group_of : List ℕ → List PlainRow → PlainRow → List PlainRow
group_of by rows row = filter (same_group by row) rows

-- whether the row is the first of its group
abbrev pub is_first : List ℕ → List PlainRow → PlainRow → Bool
is_first by rows row = option_map_or (λ first. first.key == row.key) (find (same_group by row) rows) false

-- the cells of a column, and those that are not null
abbrev pub column_of : List PlainRow → ℕ → List ℤ
column_of rows column = map (λ row. cell row.cells column) rows

abbrev pub present : List ℤ → List ℤ
present = filter (λ value. not (is_null value))

-- what f makes of the cells, or null where there are none
abbrev pub over : (ℤ → ℤ → ℤ) → List ℤ → ℤ
over f [] = null
over f (x ∷ xs) = fold f x xs

abbrev pub sum_of : List ℤ → ℤ
sum_of [] = null
sum_of (x ∷ xs) = wrap (fold ◌+ℤ◌ (pos 0) (x ∷ xs))

abbrev pub aggregate : List PlainRow → Agg → ℤ
aggregate rows Count = pos (length rows)
aggregate rows (Sum column) = sum_of (present (column_of rows column))
aggregate rows (Min column) = over int_min (present (column_of rows column))
aggregate rows (Max column) = over int_max (present (column_of rows column))
aggregate rows (First column) = over (λ first _. first) (column_of rows column)
aggregate rows (Last column) = over (λ _ last. last) (column_of rows column)

abbrev pub agg_row : List ℕ → List Agg → List PlainRow → PlainRow → PlainRow
agg_row by aggs rows row = record row { cells = key_cells by row.cells ++ map (aggregate (group_of by rows row)) aggs }

abbrev pub agg_table : List ℕ → List Agg → PlainTable → PlainTable
agg_table by aggs input = record {
  width = length by + length aggs;
  rows = map (agg_row by aggs input.rows) (filter (is_first by input.rows) input.rows);
}

-- the pairs of first rows, where the key cells are equal
abbrev pub agg_pairs : List ℕ → Tick → PlainTable → PlainTable → List KeyPair
agg_pairs by input old new =
    filter (λ pair. same_cells (key_cells by (cells_at pair.old input.old.rows)) (key_cells by (cells_at pair.new input.new.rows)))
    (both_in old new input.kept)

-- a wrapped sum with one cell more
abbrev pub with_cell : Option ℤ → ℤ → Option ℤ
with_cell sum value = if is_null value then sum else Some (wrap (unwrap_or sum (pos 0) +ℤ value))
