use Rattle.std.proofs.Common.{ℕ, ◌<◌, get_or}
use Rattle.chunk_list.specs.Blocks.{IsSum}
use Rattle.chunk_list.proofs.counts.sum_blocks.Given as goal

abbrev pub invariant-loop-block : goal.invariant-loop-block
invariant-loop-block l = (k : ℕ) → k < l.block → IsSum l.numbers k (get_or l.blocks k 0)
