use Rattle.std.proofs.Common.{◌≡◌, ℕ, ◌+◌, ◌<◌, ◌≤◌, ◌⊎◌, get_or, length}
use Rattle.snapshot_store.proofs.start.fill.Given as goal

abbrev pub invariant-loop-i : goal.invariant-loop-i
invariant-loop-i l = record {
  inside : (i : ℕ) → i < l.i → get_or l.words (l.start + i) 0 ≡ get_or l.table i 0;
  outside : (k : ℕ) → (k < l.start) ⊎ (l.start + length l.table ≤ k) → get_or l.words k 0 ≡ get_or l.initial.words k 0;
}
