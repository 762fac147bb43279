use Rattle.std.proofs.Common.{◌≡◌, take}
use Rattle.chunk_list.specs.Chunked.{contents}
use Rattle.chunk_list.proofs.chunks.Chunks.copy.Given as goal

abbrev pub invariant-loop-items : goal.invariant-loop-items
invariant-loop-items g l = contents l.chunks.items ≡ take l.items-index (contents l.items-items)
