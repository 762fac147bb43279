use Rattle.std.proofs.Common.{◌≡◌, ◌++◌, drop, map, take}
use Rattle.lookup_join.specs.Keyed.{column_of}
use Rattle.tick_model.specs.Tables.{cell}
use Rattle.lookup_join.proofs.keyed.put_key_cells.Given as goal

abbrev pub invariant-loop-pair : goal.invariant-loop-pair
invariant-loop-pair l = l.cells.items ≡ l.fn.cells.items ++ map (λ pair. cell (drop l.start l.fn.cells.items) (column_of l.side pair)) (take l.pair-index l.on)
