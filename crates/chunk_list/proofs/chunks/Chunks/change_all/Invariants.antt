use Rattle.std.proofs.Common.{◌≡◌, ◌++◌, map, take, drop}
use Rattle.chunk_list.specs.Chunked.{contents}
use Rattle.chunk_list.proofs.chunks.Chunks.change_all.Given as goal

abbrev pub invariant-loop-items : goal.invariant-loop-items
invariant-loop-items g l = contents l.items-items ≡ map (map (g.C.ItemChange.changed l.change)) (take l.items-index (contents l.initial.items-items)) ++ drop l.items-index (contents l.initial.items-items)
