use Rattle.std.proofs.Common.{leb-true, arith}
use Rattle.row_set.{proofs.Counts.blank, proofs.Places.later_end}
use Rattle.tick_table.{proofs.Passing.ended_up_to, proofs.places.ends_at.Goals.{else-index-gt0-via-then-index-gt0+else-key-ranges, else-index-gt0-via-else-index-gt0}}
use Rattle.tick_table.proofs.places.ends_at.Goals as goal

pub returns-then-index-ranges-clause-ended : goal.returns-then-index-ranges-clause-ended
returns-then-index-ranges-clause-ended c =
    λ _. ended_up_to c.args.key c.args.index c.args.ranges.now c.requires.apart c.requires.within
    (elim c.else-index-gt0.branch [
      | else-index-gt0-via-then-index-gt0+else-key-ranges w ↦ λ _. w.if-key-ranges.false
      | else-index-gt0-via-else-index-gt0 w ↦ λ some. absurd (omega (arith, some, w.if-index-gt0.false))
    ])

pub returns-else-index-ranges-clause-ended : goal.returns-else-index-ranges-clause-ended
returns-else-index-ranges-clause-ended c =
    λ _. ended_up_to c.args.key c.args.index c.args.ranges.now c.requires.apart c.requires.within
    (elim c.else-index-gt0.branch [
      | else-index-gt0-via-then-index-gt0+else-key-ranges w ↦ λ _. w.if-key-ranges.false
      | else-index-gt0-via-else-index-gt0 w ↦ λ some. absurd (omega (arith, some, w.if-index-gt0.false))
    ])

pub returns-else-index-ranges-clause-others : goal.returns-else-index-ranges-clause-others
returns-else-index-ranges-clause-others c =
    λ e. later_end c.args.key c.args.index blank c.args.ranges.now c.requires.apart (omega (arith, c.requires.within, c.if-index-ranges.false)) (leb-true c.args.key _ e)
