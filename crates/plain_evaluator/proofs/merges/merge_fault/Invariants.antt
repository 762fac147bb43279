use Rattle.std.proofs.Common.{◌≡◌, ◌≤◌, ◌*◌, map, take, length}
use Rattle.std.specs.List.{sum_by}
use Rattle.tick_model.{specs.declared.table.PlainTable.PlainTable, specs.Ready.table_in}
use Rattle.plain_evaluator.proofs.merges.merge_fault.Given as goal

abbrev pub invariant-loop-input : goal.invariant-loop-input
invariant-loop-input l = (l.rows ≡ sum_by (λ (input : PlainTable). length input.rows) (map (table_in l.tables) (take l.input-index l.inputs))) × (l.rows ≤ l.input-index * 4194304)
