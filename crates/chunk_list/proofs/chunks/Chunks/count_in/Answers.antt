use Rattle.std.proofs.Common.{ap, arith, length, suc}
use Rattle.chunk_list.proofs.Searches.{start_next, start_within}
use Rattle.chunk_list.proofs.chunks.Chunks.count_in.Goals as goal

pub overflow_add-count : goal.overflow_add-count
overflow_add-count g c =
    let ls = c.args.self.now in
    omega (arith, ap length c.chunk.ensures.items, start_next ls c.loop-index.index, start_within ls (suc c.loop-index.index), c.loop-index.invariant, c.requires.fits)
