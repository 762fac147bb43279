use Rattle.std.proofs.Common.{◌≡◌, ap, ◌∙◌, get_or, arith}
use Rattle.key_lists.specs.Keys.{without}
use Rattle.row_set.{specs.Ranges.{keys_from, keys_of}, proofs.Batches.{without_more, without_none}, proofs.Counts.blank, proofs.Edges.none_removed, proofs.Places.range_at}
use Rattle.row_set.proofs.sweeps.count_unmet.Goals as goal

pub loop-index-init : goal.loop-index-init
loop-index-init c = without_none (keys_of c.args.ranges.now)

pub loop-index-preserved : goal.loop-index-preserved
loop-index-preserved c =
    let ranges = c.args.ranges.now in
    let others = c.args.others.now in
    let i = c.loop-index.index in
    let range = get_or others i blank in
    let from = c.meeting-from.result.0 in
    let to = c.meeting-from.result.1 in
    let none : from ≡ to = omega (arith, c.meeting-from.ensures.order, c.if-from-to.false) in
    none_removed range.first range.last from to ranges c.requires.apart c.meeting-from.ensures none
    ∙ ap (without (keys_from range.first range.last)) c.loop-index.invariant
    ∙ without_more others i (keys_of ranges) c.loop-index-test.true

pub meeting-from-requires-clause-order : goal.meeting-from-requires-clause-order
meeting-from-requires-clause-order c = (range_at 0 c.args.others.now c.requires.others_apart c.loop-index.index blank c.loop-index-test.true).ascends
