use Rattle.std.proofs.Common.{arith}
use Rattle.tick_table.proofs.Before.{kept_fresh}
use Rattle.tick_table.proofs.table.TickTable.empty.Goals as goal

pub invariant_of-result : goal.invariant_of-result
invariant_of-result c =
    kept_fresh c.new.result c.new-2.result c.new-3.result c.none.result c.new-4.result c.new.ensures c.new-2.ensures c.new-3.ensures.rows c.new-3.ensures.left c.new-3.ensures.saved c.none.ensures c.new-4.ensures
    (omega (arith, c.requires.some, c.new-3.ensures.width)) (omega (arith, c.requires.few, c.new-3.ensures.width))
