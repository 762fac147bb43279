use Rattle.std.proofs.Common.{◌≡◌, ◌*◌, ◌≤◌, ◌++◌, length}
use Rattle.std.specs.Prelude.{flat_map}
use Rattle.tick_model.{specs.Changes.rows_under, specs.Tables.cells_at}
use Rattle.tick_table.specs.Placed.{paired, put_rows}
use Rattle.tick_table.proofs.stepping.modify_rows.Given as goal

abbrev pub invariant-loop-key : goal.invariant-loop-key
invariant-loop-key l = record {
  width : l.placed.width ≡ l.fn.placed.width;
  places : l.places ≡ l.rows;
  room : length l.key-iterator * l.fn.placed.width ≤ length l.rest;
  count : length l.placed.rows ≡ length l.rows;
  now : put_rows (rows_under l.fn.placed.width l.key-iterator l.rest) (paired l.rows l.placed.rows) ≡ put_rows (rows_under l.fn.placed.width l.modified l.fn.cells) (paired l.rows l.fn.placed.rows);
  left : l.placed.left ≡ l.fn.placed.left;
  saved : l.placed.saved ++ flat_map (λ key. cells_at key (paired l.rows l.placed.rows)) l.key-iterator ≡ l.fn.placed.saved ++ flat_map (λ key. cells_at key (paired l.rows l.fn.placed.rows)) l.modified;
}
