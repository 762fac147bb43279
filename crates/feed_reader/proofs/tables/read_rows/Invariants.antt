use Rattle.std.proofs.Common.{◌≡◌, ◌≤◌, length}
use Rattle.feed_reader.{specs.Records.{left_of, IsReading}, specs.ReadRows.{raw_rows, AreReadRows}, specs.Tables.{rows_from, table_with}, proofs.TableLemmas.rows_onto}
use Rattle.feed_reader.proofs.tables.read_rows.Given as goal

abbrev pub invariant-records : goal.invariant-records
invariant-records l = record {
  reading : IsReading l.records;
  rows : AreReadRows l.columns l.rows;
  told : table_with (rows_from l.columns 0 (left_of l.fn.records)) ≡ rows_onto (raw_rows l.columns l.rows) (rows_from l.columns (length l.rows.keys.items) (left_of l.records));
  few : length l.rows.keys.items ≤ 4194304;
}

abbrev pub decreases-records : goal.decreases-records
decreases-records l = length (left_of l.records)
