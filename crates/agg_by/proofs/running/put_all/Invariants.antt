use Rattle.std.proofs.Common.{◌≡◌, ◌++◌, map, take, drop}
use Rattle.agg_by.specs.Answers.{with_row}
use Rattle.agg_by.proofs.running.put_all.Given as goal

abbrev pub invariant-loop-place : goal.invariant-loop-place
invariant-loop-place l = l.all ≡ map (with_row l.fn.number l.row) (take l.place l.fn.all) ++ drop l.place l.fn.all
