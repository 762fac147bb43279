use Rattle.std.proofs.Common.{◌≡◌, ◌+◌, ◌-◌, ◌≤◌, ◌++◌, length, slice_range, vec_capacity}
use Rattle.std.specs.List.{remove_range}
use Rattle.chunk_list.specs.Chunked.{joined}
use Rattle.chunk_list.proofs.list.ChunkList.remove_run.Given as goal

abbrev pub invariant-loop-rest : goal.invariant-loop-rest
invariant-loop-rest g l = record {
  most : l.rest ≤ l.count;
  items : joined l.self ≡ remove_range (joined l.fn.self) l.position (l.position + (l.count - l.rest));
  out : l.out.items ≡ l.fn.out.items ++ slice_range (joined l.fn.self) l.position (l.position + (l.count - l.rest));
  room : length l.fn.out.items + l.count + 512 ≤ vec_capacity l.out;
}

abbrev pub decreases-loop-rest : goal.decreases-loop-rest
decreases-loop-rest g l = l.rest
