use Rattle.std.proofs.Common.{◌≡◌, ◌+◌, ◌-◌}
use Rattle.agg_by.specs.Touched.{AreMarks}
use Rattle.agg_by.proofs.touched.TouchedGroups.note.Given as goal

abbrev pub invariant-loop-self : goal.invariant-loop-self
invariant-loop-self l = record {
  numbers : l.self-inside.numbers.items ≡ l.fn.self;
  marks : AreMarks l.fn.self l.self-inside.marks.items;
}

abbrev pub decreases-loop-self : goal.decreases-loop-self
decreases-loop-self l = l.fn.number + 1 - l.self-inside.marks.len
