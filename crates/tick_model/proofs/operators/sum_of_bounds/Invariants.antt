use Rattle.std.proofs.Common.{◌≡◌, ◌*◌, ◌^◌, ◌≤◌, map, sum, take, get_or}
use Rattle.tick_model.proofs.operators.sum_of_bounds.Given as goal

abbrev pub invariant-loop-input : goal.invariant-loop-input
invariant-loop-input l = (l.sum ≡ sum (map (λ node. get_or l.bounds node 0) (take l.input-index l.inputs))) × (l.sum ≤ l.input-index * 2 ^ 62)
