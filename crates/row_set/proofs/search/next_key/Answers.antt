use Rattle.std.proofs.Common.{sym, ap, ◌∙◌, Some}
use Rattle.row_set.proofs.Lookups.{next_in, next_past}
use Rattle.row_set.proofs.search.next_key.Goals as goal

pub returns-then-index-ranges : goal.returns-then-index-ranges
returns-then-index-ranges c =
    ap Some c.max.ensures
    ∙ sym (next_in c.args.key c.few_ended_before-index.result c.args.ranges.now c.requires c.few_ended_before-index.ensures.ended c.few_ended_before-index.ensures.others c.if-index-ranges.true)

pub returns-else-index-ranges : goal.returns-else-index-ranges
returns-else-index-ranges c =
    sym (next_past c.args.key c.few_ended_before-index.result c.args.ranges.now c.few_ended_before-index.ensures.ended c.if-index-ranges.false)
