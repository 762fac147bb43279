use Rattle.std.proofs.Common.{◌≡◌, ◌*◌, ◌≤◌, ◌++◌, length, drop, map}
use Rattle.tick_model.{specs.Changes.rows_under, specs.Texts.{records_text, row_record}}
use Rattle.update_text.proofs.changes.push_told.Given as goal

-- the rows that are still to come stand after what was written
abbrev pub invariant-loop-key : goal.invariant-loop-key
invariant-loop-key l = record {
  room : length l.key-iterator * length l.columns ≤ length l.rest;
  rest : drop (length l.key-iterator * length l.columns) l.rest ≡ drop (length l.keys * length l.columns) l.fn.cells;
  written :
      l.text.items ++ records_text (map (row_record l.tag l.texts l.columns) (rows_under (length l.columns) l.key-iterator l.rest))
      ≡ l.fn.text.items ++ records_text (map (row_record l.tag l.texts l.columns) (rows_under (length l.columns) l.keys l.fn.cells));
}
