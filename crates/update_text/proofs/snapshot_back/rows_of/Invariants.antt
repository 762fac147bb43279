use Rattle.std.proofs.Common.{◌≡◌, ◌*◌, ◌≤◌, ◌++◌, length}
use Rattle.tick_model.specs.Changes.{rows_under}
use Rattle.update_text.proofs.snapshot_back.rows_of.Given as goal

-- the rows that are still to come stand behind those that are made
abbrev pub invariant-loop-key : goal.invariant-loop-key
invariant-loop-key l = record {
  room : length l.key-iterator * l.width ≤ length l.rest;
  made : l.rows ++ rows_under l.width l.key-iterator l.rest ≡ rows_under l.width l.keys l.fn.cells;
}
