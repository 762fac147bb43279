-- The tables with which sources open.
--     IsOpenedTable table      its rows stand under the keys 0, 1, 2 and so on, and are not too many
use Rattle.std.{specs.Prelude.{◌≡◌, ◌≤◌, length}, specs.List.range_with_len}
use Rattle.tick_model.{specs.declared.table.PlainTable.PlainTable, specs.Tables.keys}

pub record IsOpenedTable (table : PlainTable) : Type 0 where
  pub count : length table.rows ≤ 4194304
  pub keys_are : keys table.rows ≡ range_with_len 0 (length table.rows)
