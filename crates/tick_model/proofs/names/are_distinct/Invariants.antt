use Rattle.std.proofs.Common.{◌≡◌, map, drop}
use Rattle.tick_model.specs.Names.{are_distinct}
use Rattle.tick_model.proofs.names.are_distinct.Given as goal

abbrev pub invariant-loop-i : goal.invariant-loop-i
invariant-loop-i g l = are_distinct (map g.T.Named.named (drop l.i l.items)) ≡ are_distinct (map g.T.Named.named l.items)
