use Rattle.std.proofs.Common.{◌≡◌, ◌++◌, map, take}
use Rattle.std.specs.Option.{option_copied, option_map_or}
use Rattle.tick_model.{specs.Tables.{null, cell}, specs.declared.table.PlainRow.PlainRow}
use Rattle.plain_evaluator.proofs.joins.joined_row.Given as goal

abbrev pub invariant-loop-column : goal.invariant-loop-column
invariant-loop-column l = l.cells.items ≡ l.left.cells ++ map (λ column. option_map_or (λ (row : PlainRow). cell row.cells column) (option_copied l.right) null) (take l.column-index l.take)
