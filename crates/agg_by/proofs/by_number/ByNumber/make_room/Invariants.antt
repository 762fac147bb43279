use Rattle.std.proofs.Common.{◌≡◌, ◌+◌, ◌-◌}
use Rattle.agg_by.specs.ByNumber.{changed_at}
use Rattle.agg_by.proofs.by_number.ByNumber.make_room.Given as goal

abbrev pub invariant-loop-self : goal.invariant-loop-self
invariant-loop-self g l = (change : _) → changed_at g.T.OfCells.none l.fn.number change l.self-inside.entries.items ≡ changed_at g.T.OfCells.none l.fn.number change l.fn.self

abbrev pub decreases-loop-self : goal.decreases-loop-self
decreases-loop-self g l = l.fn.number + 1 - l.self-inside.entries.len
