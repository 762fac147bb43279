-- The words of a table, row by row.
use Rattle.std.proofs.Common.{◌≡◌, refl, ap, ap₂, ℕ, suc, List, [], ◌∷◌, ◌++◌, length, Some}
use Rattle.std.{specs.Prelude.{map, flat_map, unwrap_or, option_map, Option}, specs.List.AllByRecursion, specs.Int.{w64, cast_unsigned}}
use Rattle.tick_model.{specs.declared.table.PlainRow.PlainRow, specs.declared.table.PlainTable.PlainTable, specs.Tables.{IsTable, cells_at, keys, row_at}, specs.Words.row_words, proofs.Among.each_found}

-- a key and the cells of its row
abbrev pub words_at : List PlainRow → ℕ → List ℕ
words_at rows key = key ∷ map (cast_unsigned w64) (cells_at key rows)

-- the rows one after the other are those under their keys
rows_words : (all rows : List PlainRow) → AllByRecursion (λ row. row_at row.key all ≡ Some row) rows → flat_map (words_at all) (keys rows) ≡ flat_map row_words rows
rows_words all [] h = refl
rows_words all (row ∷ rows) h =
    let own : words_at all row.key ≡ row_words row = ap (λ (found : Option PlainRow). row.key ∷ map (cast_unsigned w64) (unwrap_or (option_map (λ (row : PlainRow). row.cells) found) [])) h.0 in
    ap₂ (λ (a b : List ℕ). a ++ b) own (rows_words all rows h.1)

pub table_words : (table : PlainTable) → IsTable table → flat_map (words_at table.rows) (keys table.rows) ≡ flat_map row_words table.rows
table_words table is = rows_words table.rows table.rows (each_found table.rows is.rising)

pub keys_long : (rows : List PlainRow) → length (keys rows) ≡ length rows
keys_long [] = refl
keys_long (row ∷ rows) = ap suc (keys_long rows)
