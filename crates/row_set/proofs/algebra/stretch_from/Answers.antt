use Rattle.row_set.proofs.Merged.{stretch_held, stretch_free}
use Rattle.row_set.proofs.algebra.stretch_from.Goals as goal

pub returns-then-range-at-clause-same : goal.returns-then-range-at-clause-same
returns-then-range-at-clause-same c =
    λ key above below. stretch_held c.args.at key c.args.ranges.now c.in-Some.range.now c.in-Some.ensures.value c.if-range-at.true above below

pub returns-else-range-at-clause-same : goal.returns-else-range-at-clause-same
returns-else-range-at-clause-same c =
    λ key above below. stretch_free c.args.at key c.args.ranges.now c.in-Some.range.now c.in-Some.ensures.value c.requires.ahead below
