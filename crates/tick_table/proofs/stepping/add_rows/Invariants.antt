use Rattle.std.proofs.Common.{◌≡◌, ◌*◌, ◌≤◌, length, drop}
use Rattle.key_lists.specs.Keys.{without}
use Rattle.tick_model.specs.Changes.{rows_under}
use Rattle.tick_table.specs.Placed.{paired, put_rows}
use Rattle.tick_table.proofs.stepping.add_rows.Given as goal

abbrev pub invariant-loop-key : goal.invariant-loop-key
invariant-loop-key l = record {
  width : l.placed.width ≡ l.fn.placed.width;
  places : l.places ≡ l.rows;
  room : length l.key-iterator * l.fn.placed.width ≤ length l.rest;
  rest : drop (length l.key-iterator * l.fn.placed.width) l.rest ≡ drop (length l.added * l.fn.placed.width) l.fn.cells;
  count : length l.placed.rows ≡ length (without l.key-iterator l.rows);
  now : put_rows (rows_under l.fn.placed.width l.key-iterator l.rest) (paired (without l.key-iterator l.rows) l.placed.rows) ≡ put_rows (rows_under l.fn.placed.width l.added l.fn.cells) (paired (without l.added l.rows) l.fn.placed.rows);
  left : l.placed.left ≡ l.fn.placed.left;
  saved : l.placed.saved ≡ l.fn.placed.saved;
}
