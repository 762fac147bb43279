use Rattle.std.proofs.Common.{◌≡◌, ◌*◌, ℕ, List, length}
use Rattle.std.{specs.Prelude.flat_map, specs.List.AllByRecursion}
use Rattle.feed_reader.{specs.Coding.ranks_among, specs.Raw.IsNumberedRow, proofs.CodingLemmas.{coded_from, row_coded, rows_left}}
use Rattle.feed_reader.proofs.coding.coded_rows.Given as goal

abbrev pub invariant-loop-place : goal.invariant-loop-place
invariant-loop-place l = record {
  whole : length l.cells.items ≡ l.width * length l.keys.items;
  numbered : AllByRecursion (IsNumberedRow l.kinds (length l.ranks)) (rows_left l.width l.keys.items l.place l.cells.items);
  coded : (texts own : List (List ℕ)) → l.ranks ≡ ranks_among texts own → coded_from texts own l.kinds l.width l.keys.items l.place l.cells.items ≡ flat_map (row_coded texts own l.kinds) l.fn.rows;
}
