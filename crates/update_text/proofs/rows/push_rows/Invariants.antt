use Rattle.std.proofs.Common.{◌≡◌, ◌++◌, take, map}
use Rattle.tick_model.specs.Texts.{row_record, records_text}
use Rattle.update_text.proofs.rows.push_rows.Given as goal

abbrev pub invariant-loop-row : goal.invariant-loop-row
invariant-loop-row l = l.text.items ≡ l.fn.text.items ++ records_text (map (row_record l.tag l.texts l.columns) (take l.row-index l.rows))
