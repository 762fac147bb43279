-- The part of a table that some of its keys make.
use Rattle.std.proofs.Common.{◌≡◌, ap, sym, ◌∙◌, subst, Bool, true, ℕ, List, [], filter, Option}
use Rattle.std.{specs.Prelude.{option_map, unwrap_or}, specs.List.AllByRecursion}
use Rattle.key_lists.{specs.Keys.is_among, proofs.Among.of_among, proofs.Every.{every_weaker, every-map, every-filter}, proofs.Rising.rising-filter}
use Rattle.tick_model.{specs.declared.table.PlainRow.PlainRow, specs.declared.table.PlainTable.PlainTable, specs.Tables.{IsRow, IsTable, cells_at, keys}, proofs.Among.{row_at-filter, rows_among}}
use Rattle.tick_table.proofs.Told.{flat_map-same}
use Rattle.row_changes.specs.Parts.{AreThere, cells_under}
use Rattle.shown_rows.{specs.Shown.{IsPart, part}, proofs.Named.filter_named}

part_table : (these : List ℕ) (table : PlainTable) → IsTable table → IsTable (part these table)
part_table these table t = record {
  rows = every-filter (IsRow table.width) (λ row. is_among row.key these) table.rows t.rows;
  rising = rising-filter (λ (row : PlainRow). row.key) (λ row. is_among row.key these) table.rows t.rising;
}

-- a part of a table is a table
pub is_table : (some table : PlainTable) → IsPart some table → IsTable table → IsTable some
is_table some table p t = subst IsTable (sym p) (part_table (keys some.rows) table t)

-- its keys are some of the table's
pub keys_there : (some table : PlainTable) → IsPart some table → AllByRecursion (λ key. is_among key (keys table.rows) ≡ true) (keys some.rows)
keys_there some table p =
    subst (λ (made : PlainTable). AllByRecursion (λ key. is_among key (keys table.rows) ≡ true) (keys made.rows)) (sym p)
    (every-map (λ key. is_among key (keys table.rows) ≡ true) (λ (row : PlainRow). row.key) (part (keys some.rows) table).rows
    (every-filter (λ row. is_among row.key (keys table.rows) ≡ true) (λ row. is_among row.key (keys some.rows)) table.rows (rows_among table.rows)))

-- and under them it has the table's rows
pub cells_there : (some table : PlainTable) (key : ℕ) → IsPart some table → is_among key (keys some.rows) ≡ true → cells_at key some.rows ≡ cells_at key table.rows
cells_there some table key p own =
    ap (λ (made : PlainTable). cells_at key made.rows) p
    ∙ ap (λ (found : Option PlainRow). unwrap_or (option_map (λ (row : PlainRow). row.cells) found) []) (row_at-filter (λ key. is_among key (keys some.rows)) key table.rows own)

-- the same of several keys
pub are_there : (some table : PlainTable) (ks : List ℕ) → IsPart some table → AreThere some ks → AreThere table ks
are_there some table ks p there =
    every_weaker (λ key. is_among key (keys some.rows) ≡ true) (λ key. is_among key (keys table.rows) ≡ true) ks
    (λ key own. of_among (λ key. is_among key (keys table.rows) ≡ true) key (keys some.rows) (keys_there some table p) own) there

pub cells_under-part : (some table : PlainTable) (ks : List ℕ) → IsPart some table → AreThere some ks → cells_under some ks ≡ cells_under table ks
cells_under-part some table ks p there =
    flat_map-same (λ key. cells_at key some.rows) (λ key. cells_at key table.rows) ks
    (every_weaker (λ key. is_among key (keys some.rows) ≡ true) (λ key. cells_at key some.rows ≡ cells_at key table.rows) ks (λ key own. cells_there some table key p own) there)

-- the rows that pass a test are a part
pub passing_part : (test : PlainRow → Bool) (table : PlainTable) → IsTable table → let some : PlainTable = record table { rows = filter test table.rows } in IsPart some table
passing_part test table t = ap (λ rows. let made : PlainTable = record table { rows = rows } in made) (sym (filter_named (λ (row : PlainRow). row.key) test table.rows t.rising))
