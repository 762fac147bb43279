use Rattle.std.proofs.Common.{◌≡◌, ◌+◌}
use Rattle.tick_table.proofs.table.read_all.Given as goal

abbrev pub invariant-loop : goal.invariant-loop
invariant-loop g l = l.reads ≡ l.fn.reads + l.index
