use Rattle.std.proofs.Common.{◌≡◌, ◌<◌, ◌+◌, ◌==◌, ℕ, length, vec_len, take, slice_index, count_by}
use Rattle.graph_words.proofs.start.count_inputs.Given as goal

abbrev pub invariant-loop-edge : goal.invariant-loop-edge
invariant-loop-edge l = record {
  len : vec_len l.counts ≡ l.nodes + length l.edges + 1;
  each : (n : ℕ) → n < length l.counts.items → slice_index l.counts.items n ≡ count_by (λ x. x.to == n) (take l.edge-index l.edges);
}
