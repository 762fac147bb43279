use Rattle.std.proofs.Common.{◌≡◌, ◌+◌, ◌≤◌, ◌++◌, map, take}
use Rattle.agg_by.specs.Answers.{answer}
use Rattle.agg_by.proofs.running.put_values.Given as goal

abbrev pub invariant-loop-running : goal.invariant-loop-running
invariant-loop-running g l = record {
  cells : l.cells.items ≡ l.fn.cells.items ++ map (λ running. answer running l.fn.number l.group l.input.new.rows) (take l.running-index l.all);
  reads : l.reads ≤ l.fn.reads + l.running-index;
}
