-- Tables as words, read back.
--     AreWordsOf shown words table      the words are those of a table with these columns
--     rows_told count size words      so many rows, each of so many words
--     snapshot_shown caller call step shown texts rows      the records of a snapshot
--     snapshot_text shown texts snapshot      their text
--     IsSnapshot columns texts snapshot      rows of these columns under rising keys, at a step of 64 bits
use Rattle.std.{specs.Prelude.{◌≡◌, ℕ, ◌^◌, ◌<◌, zero, suc, List, [], ◌∷◌, codes, map, take, drop, length}, specs.Fmt.decimal, specs.Int.{w64, cast_signed}, specs.List.AllByRecursion}
use Rattle.key_lists.specs.Keys.{IsRising}
use Rattle.tick_model.{specs.declared.plan.ColumnSpec.ColumnSpec, specs.declared.table.PlainRow.PlainRow, specs.declared.table.PlainTable.PlainTable, specs.Tables.{HasCells, keys}, specs.Texts.{records_text, snapshot_of}, specs.Words.words}
use Rattle.update_text.{specs.declared.printed.Snapshot.Snapshot, specs.declared.shown.Shown.Shown, specs.Reading.IsToldRow}

-- the words are those of this table, whose rows have a cell for each column, and whose cells are numbers of 64 bits
pub record AreWordsOf (shown : Shown) (told : List ℕ) (table : PlainTable) : Type 0 where
  pub same : told ≡ words table
  pub whole : AllByRecursion (λ row. length row.cells ≡ length shown.columns) table.rows
  pub numbers : HasCells table

-- the row that words tell: its key, and then its cells
abbrev pub row_told : List ℕ → PlainRow
row_told [] = record { key = 0; cells = [] }
row_told (key ∷ cells) = record { key = key; cells = map (cast_signed w64) cells }

abbrev pub rows_told : ℕ → ℕ → List ℕ → List PlainRow
rows_told zero size told = []
rows_told (suc count) size told = row_told (take size told) ∷ rows_told count size (drop size told)

-- the first record of a snapshot
abbrev pub snap_record : ℕ → ℕ → ℕ → List ℕ → List (List ℕ)
snap_record caller call step name = codes "snap" ∷ decimal caller ∷ decimal call ∷ decimal step ∷ name ∷ []

-- a snapshot's records, of these rows
abbrev pub snapshot_shown : ℕ → ℕ → ℕ → Shown → List (List ℕ) → List PlainRow → List (List (List ℕ))
snapshot_shown caller call step shown texts rows = snapshot_of caller call step shown.name shown.columns texts rows

abbrev pub snapshot_text : Shown → List (List ℕ) → Snapshot → List ℕ
snapshot_text shown texts snapshot = records_text (snapshot_shown snapshot.caller snapshot.call snapshot.step shown texts snapshot.rows)

pub record IsSnapshot (columns : List ColumnSpec) (texts : List (List ℕ)) (snapshot : Snapshot) : Type 0 where
  pub caller : snapshot.caller < 2 ^ 32
  pub call : snapshot.call < 2 ^ 32
  pub step : snapshot.step < 2 ^ 64
  pub rising : IsRising (keys snapshot.rows)
  pub rows : AllByRecursion (IsToldRow columns texts) snapshot.rows
