use Rattle.std.proofs.Common.{◌≡◌, ◌<◌, ◌≤◌, ℕ, get_or, length}
use Rattle.replay.{specs.declared.readers.Reader.Reader, specs.Snapshots.{HasEnded, HasRead}}
use Rattle.replay.proofs.last_calls.call_all.Given as goal

-- the callers before this one have made their last calls
abbrev pub invariant-loop-number : goal.invariant-loop-number
invariant-loop-number g l = record {
  long : length l.readers ≡ length l.initial.readers;
  same : l.writer ≡ l.initial.writer;
  ended : (i : ℕ) (d : Reader) → i < l.number → HasEnded l.store l.knobs.attempts i l.knobs.snaps l.initial.writer.step (get_or l.readers i d);
  left : (i : ℕ) (d : Reader) → l.number ≤ i → i < length l.readers → HasRead l.store l.knobs.attempts i l.knobs.snaps (get_or l.readers i d);
}
