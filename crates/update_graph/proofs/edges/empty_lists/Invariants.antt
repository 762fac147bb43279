use Rattle.std.proofs.Common.{◌≡◌, ℕ, [], length}
use Rattle.update_graph.specs.Edges.{numbers_at}
use Rattle.update_graph.proofs.edges.empty_lists.Given as goal

abbrev pub invariant-loop : goal.invariant-loop
invariant-loop l = record {
  length : length l.lists.items ≡ l.counter;
  empty : (node : ℕ) → numbers_at l.lists.items node ≡ [];
}
