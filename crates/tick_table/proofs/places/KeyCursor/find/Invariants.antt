use Rattle.std.proofs.Common.{◌≡◌, ◌-◌, ◌≤◌, length}
use Rattle.tick_table.specs.Places.{IsPassing}
use Rattle.tick_table.proofs.places.KeyCursor.find.Given as goal

abbrev pub invariant-loop-self : goal.invariant-loop-self
invariant-loop-self l = record {
  same : l.self-inside.set.now ≡ l.initial.self-inside.set.now;
  end : l.end ≤ length l.self-inside.ranges.now;
  passing : IsPassing l.self-inside.set.now l.self-inside.ranges.now l.self-inside.passed l.self-inside.before;
}

abbrev pub decreases-loop-self : goal.decreases-loop-self
decreases-loop-self l = l.end - l.self-inside.passed
