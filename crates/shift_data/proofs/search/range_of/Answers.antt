use Rattle.std.proofs.Common.{sym, ◌∙◌}
use Rattle.shift_data.proofs.Searches.{missed, got, found_none, found_some}
use Rattle.shift_data.proofs.search.range_of.Goals as goal

pub returns-in_err-range-clause-range : goal.returns-in_err-range-clause-range
returns-in_err-range-clause-range c =
    c.from_residual.ensures
    ∙ found_none c.args.key c.args.shifts.now c.ended_before.result c.ended_before.ensures.ended
    (missed c.args.shifts.now c.ended_before.result c.get.result c.get.ensures.lookup (sym c.copied.ensures ∙ c.in_err-range.was))

pub returns-clause-range : goal.returns-clause-range
returns-clause-range c =
    let there = got c.args.shifts.now c.ended_before.result c.get.result c.in_ok-range.range c.get.ensures.lookup (sym c.copied.ensures ∙ c.in_ok-range.was) in
    c.then_some.ensures
    ∙ found_some c.args.key c.args.shifts.now c.ended_before.result c.in_ok-range.range c.requires.apart c.ended_before.ensures.ended c.ended_before.ensures.others there.0 there.1
