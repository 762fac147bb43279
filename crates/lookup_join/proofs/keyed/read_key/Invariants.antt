use Rattle.std.proofs.Common.{◌≡◌, map, take}
use Rattle.lookup_join.specs.Keyed.{column_of}
use Rattle.tick_model.specs.Tables.{cell}
use Rattle.lookup_join.proofs.keyed.read_key.Given as goal

abbrev pub invariant-loop-pair : goal.invariant-loop-pair
invariant-loop-pair l = l.buffer.items ≡ map (λ pair. cell l.row (column_of l.side pair)) (take l.pair-index l.on)
