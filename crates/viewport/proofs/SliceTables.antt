-- Slices of a table, and the table with some of its columns, are tables.
use Rattle.std.proofs.Common.{◌≡◌, refl, ap, sym, ◌∙◌, subst, true, ℕ, ◌+◌, ◌≤◌, ◌<◌, arith, List, [], ◌∷◌, take, drop, length}
use Rattle.std.{specs.List.AllByRecursion, proofs.lemmas.List.{drop-map, length-map, take-map}}
use Rattle.key_lists.{specs.Keys.{is_among, IsRising}, proofs.Among.each_among, proofs.Every.{every, every_weaker}, proofs.Parts.{every-take, every-drop}}
use Rattle.tick_laws.{proofs.OperatorTicks.keys_mapped, proofs.ResultTables.mapped_table, proofs.SliceTicks.slice_table}
use Rattle.tick_model.{specs.declared.table.PlainRow.PlainRow, specs.declared.table.PlainTable.PlainTable, specs.Slices.chosen_cells, specs.Tables.{IsTable, cell, keys}}
use Rattle.viewport.{specs.declared.slice.Slice.Slice, specs.Slices.{AreColumns, cut, narrowed}}

pub narrowed_keys : (columns : List ℕ) (table : PlainTable) → keys (narrowed columns table).rows ≡ keys table.rows
narrowed_keys columns table = keys_mapped (chosen_cells columns) table.rows (λ row. refl)

pub narrowed_table : (columns : List ℕ) (table : PlainTable) → IsTable table → IsTable (narrowed columns table)
narrowed_table columns table t = mapped_table (length columns) (chosen_cells columns) table t (λ row. refl) (λ row whole. length-map columns (cell row.cells))

pub cut_table : (asked : Slice) (table : PlainTable) → IsTable table → IsTable (cut asked table)
cut_table asked table t = slice_table asked.first asked.count asked.columns table t

-- the keys of a slice are those at its positions
pub cut_keys : (asked : Slice) (table : PlainTable) → take asked.count (drop asked.first (keys table.rows)) ≡ keys (cut asked table).rows
cut_keys asked table =
    ap (take asked.count) (drop-map (λ (row : PlainRow). row.key) asked.first table.rows)
    ∙ take-map (λ (row : PlainRow). row.key) asked.count (drop asked.first table.rows)
    ∙ sym (keys_mapped (chosen_cells asked.columns) (take asked.count (drop asked.first table.rows)) (λ row. refl))

pub cut_there : (asked : Slice) (table : PlainTable) → AllByRecursion (λ key. is_among key (keys table.rows) ≡ true) (keys (cut asked table).rows)
cut_there asked table =
    subst (AllByRecursion (λ key. is_among key (keys table.rows) ≡ true)) (cut_keys asked table)
    (every-take (λ key. is_among key (keys table.rows) ≡ true) asked.count (drop asked.first (keys table.rows))
    (every-drop (λ key. is_among key (keys table.rows) ≡ true) asked.first (keys table.rows) (each_among (keys table.rows))))

-- rising numbers below a bound are not more than the bound
rising_count : (low bound : ℕ) (numbers : List ℕ) → low ≤ bound → AllByRecursion (λ n. low ≤ n) numbers → AllByRecursion (λ n. n < bound) numbers → IsRising numbers → low + length numbers ≤ bound
rising_count low bound [] room above below rising = omega (arith, room)
rising_count low bound (n ∷ numbers) room above below rising =
    let rest = rising_count (n + 1) bound numbers (omega (arith, below.0)) (every_weaker (λ m. n < m) (λ m. n + 1 ≤ m) numbers (λ m h. omega (arith, h)) rising.0) below.1 rising.1 in
    omega (arith, rest, above.0)

pub column_count : (width : ℕ) (columns : List ℕ) → IsRising columns → AreColumns width columns → length columns ≤ width
column_count width columns rising within =
    let count = rising_count 0 width columns (omega arith) (every (λ n. 0 ≤ n) columns (λ n. omega arith)) within rising in
    omega (arith, count)
