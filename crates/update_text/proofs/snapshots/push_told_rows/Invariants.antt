use Rattle.std.proofs.Common.{◌≡◌, ◌≤◌, ◌+◌, ◌-◌, ◌*◌, ◌++◌, length, map}
use Rattle.std.specs.Prelude.{codes}
use Rattle.tick_model.specs.Texts.{records_text, row_record}
use Rattle.update_text.specs.Snapshots.{rows_told}
use Rattle.update_text.proofs.snapshots.push_told_rows.Given as goal

-- the rows that are still to come stand after what was written
abbrev pub invariant-loop-row : goal.invariant-loop-row
invariant-loop-row l = record {
  size : l.size ≡ length l.columns + 1;
  enough : (l.count - l._row) * l.size ≤ length l.left;
  written :
      l.text.items ++ records_text (map (row_record (codes "w") l.texts l.columns) (rows_told (l.count - l._row) l.size l.left))
      ≡ l.fn.text.items ++ records_text (map (row_record (codes "w") l.texts l.columns) (rows_told l.count l.size l.words));
}
