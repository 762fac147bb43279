use Rattle.std.proofs.Common.{◌≡◌, ◌+◌}
use Rattle.graph_words.specs.Seats.{IsSeatOf}
use Rattle.steal_workers.specs.Holdings.{less_parts, some_parts}
use Rattle.steal_workers.proofs.team.split_parts.Given as goal

abbrev pub invariant-loop : goal.invariant-loop
invariant-loop g l = record {
  of : IsSeatOf l.claims l.seat;
  less : l.seat.view ≡ less_parts (l.counter + 1) l.fn.seat.view;
  other_of : IsSeatOf l.claims l.other;
  given : l.other.view ≡ some_parts (l.counter + 1) l.fn.seat.view;
}
