use Rattle.std.proofs.Common.{◌≡◌, ◌-◌, ◌*◌, drop}
use Rattle.row_set.{specs.Ranges.keys_before, proofs.Starts.AreWritten}
use Rattle.row_set.proofs.blocks.recount_blocks.Given as goal

abbrev pub invariant-loop-block : goal.invariant-loop-block
invariant-loop-block l =
    AreWritten (λ block start. start ≡ keys_before (16 * block - l.front) (drop l.front l.all)) l.fn.starts l.starts l.first l.block
    × (l.next ≡ keys_before (16 * l.block - l.front) (drop l.front l.all))
