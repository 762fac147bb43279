use Rattle.std.proofs.Common.{◌≡◌, ◌+◌, ◌++◌, ◌^◌, ◌≤◌, length, drop, take}
use Rattle.std.specs.List.{AllByRecursion}
use Rattle.chunk_list.specs.Chunked.{IsChunk, joined}
use Rattle.chunk_list.proofs.list.ChunkList.append_chunks.Given as goal

abbrev pub invariant-loop-rest : goal.invariant-loop-rest
invariant-loop-rest g l = record {
  sizes : AllByRecursion IsChunk l.self;
  room : length (joined l.self) + length l.rest ≤ 2 ^ 62;
  kept : take (length l.fn.self) l.self ≡ l.fn.self;
  put : joined (drop (length l.fn.self) l.self) ++ l.rest ≡ l.fn.items;
}

abbrev pub decreases-loop-rest : goal.decreases-loop-rest
decreases-loop-rest g l = length l.rest
