use Rattle.std.proofs.Common.{◌≡◌, ◌++◌, map, take, drop}
use Rattle.chunk_list.proofs.chunks.change_items.Given as goal

abbrev pub invariant-loop-item : goal.invariant-loop-item
invariant-loop-item g l = l.items ≡ map (g.C.ItemChange.changed l.change) (take l.item-index l.initial.items) ++ drop l.item-index l.initial.items
