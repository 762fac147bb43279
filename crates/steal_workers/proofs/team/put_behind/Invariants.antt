use Rattle.std.proofs.Common.{◌≡◌, ◌+◌, ◌++◌, length, vec_len, vec_capacity}
use Rattle.steal_workers.proofs.team.put_behind.Given as goal

abbrev pub invariant-loop-hand : goal.invariant-loop-hand
invariant-loop-hand l = record {
  items : l.hands.items ≡ l.fn.hands.items ++ l.yielded;
  len : vec_len l.hands ≡ vec_len l.fn.hands + length l.yielded;
  capacity : vec_capacity l.hands ≡ vec_capacity l.fn.hands;
}
