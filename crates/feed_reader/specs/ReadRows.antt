-- The rows of a table file, while they are read.
--     raw_rows columns read      the rows that are read so far, as they are written
--     AreReadRows columns read      they are whole, under the keys 0, 1, 2 and so on, and their texts are numbered
--     IsTaken told before after row      the row that a record spells is put behind the others, or is refused
use Rattle.std.{specs.Prelude.{◌≡◌, ◌*◌, ◌++◌, ◌∷◌, List, [], Result, Ok, Err, map, length}, specs.List.range_with_len}
use Rattle.tick_model.{specs.declared.plan.ColumnSpec.ColumnSpec, specs.declared.table.PlainRow.PlainRow, specs.Changes.rows_under}
use Rattle.feed_reader.{specs.declared.fault.TextKind.TextKind, specs.declared.raw.RawRow.RawRow, specs.declared.tables.ReadRows.ReadRows, specs.Cells.kinds_in, specs.Raw.{raw_row, AreNumbered}}

abbrev pub plain_rows : List ColumnSpec → ReadRows → List PlainRow
plain_rows columns read = rows_under (length columns) read.keys.items read.read.cells.items

abbrev pub raw_rows : List ColumnSpec → ReadRows → List RawRow
raw_rows columns read = map (raw_row read.read.texts (kinds_in columns)) (plain_rows columns read)

pub record AreReadRows (columns : List ColumnSpec) (read : ReadRows) : Type 0 where
  pub keys_are : read.keys.items ≡ range_with_len 0 (length read.keys.items)
  pub whole : length read.read.cells.items ≡ length columns * length read.keys.items
  pub numbered : AreNumbered (kinds_in columns) read.read.texts (plain_rows columns read)

abbrev pub IsTaken : Result (Unit {0}) TextKind → List RawRow → List RawRow → Result RawRow TextKind → Type 0
IsTaken (Ok done) before after (Ok row) = after ≡ before ++ row ∷ []
IsTaken (Err kind) before after (Err refused) = kind ≡ refused
IsTaken told before after row = ⊥
