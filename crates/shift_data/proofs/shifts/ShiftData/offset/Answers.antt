use Rattle.std.proofs.lemmas.List.{take_all}
use Rattle.shift_data.proofs.Lists.{list-offset}
use Rattle.shift_data.proofs.shifts.ShiftData.offset.Goals as goal

pub invariant_of-result : goal.invariant_of-result
invariant_of-result c =
    rw (c.loop-range.invariant, take_all c.loop-range.range-index c.deref-range-items.result.now c.loop-range-test.false, c.deref-range-items.ensures.value)
    (list-offset c.args.by c.self.inside.ranges.items (rw c.self.view_is c.requires) c.self.invariant)
