use Rattle.std.proofs.Common.{sym}
use Rattle.row_set.{proofs.Lookups.{find_in, find_between, find_past}, proofs.search.range_at.Goals.{else-index-ranges-via-then-index-ranges+else-ranges-index, else-index-ranges-via-else-index-ranges}}
use Rattle.row_set.proofs.search.range_at.Goals as goal

pub returns-then-ranges-index : goal.returns-then-ranges-index
returns-then-ranges-index c =
    sym (find_in c.args.key c.few_ended_before-index.result c.args.ranges.now c.requires c.few_ended_before-index.ensures.ended c.few_ended_before-index.ensures.others c.if-index-ranges.true c.if-ranges-index.true)

pub returns-else-index-ranges : goal.returns-else-index-ranges
returns-else-index-ranges c =
    elim c.else-index-ranges.branch [
      | else-index-ranges-via-then-index-ranges+else-ranges-index w ↦
          sym (find_between c.args.key c.few_ended_before-index.result c.args.ranges.now c.requires c.few_ended_before-index.ensures.ended c.few_ended_before-index.ensures.others w.if-index-ranges.true w.if-ranges-index.false)
      | else-index-ranges-via-else-index-ranges w ↦
          sym (find_past c.args.key c.few_ended_before-index.result c.args.ranges.now c.few_ended_before-index.ensures.ended w.if-index-ranges.false)
    ]
