use Rattle.std.proofs.Common.{◌≡◌, ◌-◌, ◌*◌, ◌≤◌, drop, length, vec_capacity}
use Rattle.row_set.{specs.Ranges.keys_before, specs.Runs.AreStarts}
use Rattle.row_set.proofs.blocks.count_rest.Given as goal

abbrev pub invariant-loop-block : goal.invariant-loop-block
invariant-loop-block l =
    AreStarts l.front l.all l.starts.items
    × (l.block ≡ length l.starts.items)
    × (l.next ≡ keys_before (16 * l.block - l.front) (drop l.front l.all))
    × (vec_capacity l.fn.starts ≤ vec_capacity l.starts)

abbrev pub decreases-loop-block : goal.decreases-loop-block
decreases-loop-block l = length l.all - l.block
