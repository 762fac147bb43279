use Rattle.std.proofs.Common.{◌≡◌, length, take}
use Rattle.chunk_list.specs.Chunked.{joined}
use Rattle.chunk_list.proofs.chunks.Chunks.count_in.Given as goal

abbrev pub invariant-loop-index : goal.invariant-loop-index
invariant-loop-index g l = l.count ≡ length (joined (take l.index l.self))
