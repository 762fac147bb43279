use Rattle.std.proofs.Common.{◌≤◌, sym, take, arith}
use Rattle.row_set.{proofs.Apart.apart-take, proofs.Counts.few_keys, proofs.Lookups.{apart_at, every_at, found_in, found_between, found_past}}
use Rattle.tick_table.proofs.places.found_at.Goals.{else-index-ranges-via-then-index-ranges+else-ranges-index, else-index-ranges-via-else-index-ranges}
use Rattle.tick_table.proofs.places.found_at.Goals as goal

pub overflow_add-result : goal.overflow_add-result
overflow_add-result c =
    let i = c.args.index in
    let ranges = c.args.ranges.now in
    omega (
      arith,
      few_keys (take i ranges) (apart-take 0 i ranges c.requires.apart),
      c.requires.before,
      every_at (λ range. c.args.key ≤ range.last) i ranges c.if-index-ranges.true c.requires.others,
      (apart_at i ranges c.if-index-ranges.true c.requires.apart).0.small,
    )

pub returns-then-ranges-index : goal.returns-then-ranges-index
returns-then-ranges-index c =
    sym (found_in c.args.key c.args.index c.args.before c.args.ranges.now c.requires.apart c.requires.ended c.requires.others c.requires.before c.if-index-ranges.true c.if-ranges-index.true)

pub returns-else-index-ranges : goal.returns-else-index-ranges
returns-else-index-ranges c =
    elim c.else-index-ranges.branch [
      | else-index-ranges-via-then-index-ranges+else-ranges-index w ↦
          sym (found_between c.args.key c.args.index c.args.before c.args.ranges.now c.requires.apart c.requires.ended c.requires.others c.requires.before w.if-index-ranges.true w.if-ranges-index.false)
      | else-index-ranges-via-else-index-ranges w ↦
          sym (found_past c.args.key c.args.index c.args.before c.args.ranges.now c.requires.ended c.requires.before w.if-index-ranges.false)
    ]
