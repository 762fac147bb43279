use Rattle.std.proofs.Common.{◌≡◌, ◌++◌, take, drop}
use Rattle.tick_model.specs.Sort.{numbered}
use Rattle.plain_evaluator.proofs.sort.numbered.Given as goal

abbrev pub invariant-loop-number : goal.invariant-loop-number
invariant-loop-number l = l.rows ≡ numbered 0 (take l.number l.initial.rows) ++ drop l.number l.initial.rows
