use Rattle.std.proofs.Common.{◌≡◌, ◌+◌, length}
use Rattle.crossbeam_deque.specs.Handles.{worker_view}
use Rattle.steal_workers.specs.Deques.{IsSameDeque}
use Rattle.steal_workers.proofs.own.Own.drain.Given as goal

abbrev pub invariant-loop : goal.invariant-loop
invariant-loop l = record {
  same : IsSameDeque l.fn.self.deque l.self.deque;
  left : length (worker_view l.self.deque).pushed + l.counter ≡ length (worker_view l.self.deque).taken + l.end;
}
