use Rattle.std.proofs.Common.{◌≡◌, ℕ, List, false, ◌++◌, ◌≤◌, length}
use Rattle.run_output.proofs.Behind.{behind}
use Rattle.run_output.proofs.split.after_record.Given as goal

-- what is left has the same behind its first record
abbrev pub invariant-loop-byte : goal.invariant-loop-byte
invariant-loop-byte l = record {
  front : (front : List ℕ) × (l.fn.bytes ≡ front ++ l.rest);
  shorter : length l.rest ≤ length l.fn.bytes;
  same : behind l.is_quoted l.rest ≡ behind false l.fn.bytes;
}

abbrev pub decreases-loop-byte : goal.decreases-loop-byte
decreases-loop-byte l = length l.rest
