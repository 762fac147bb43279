use Rattle.std.proofs.Common.{◌≡◌, map, drop}
use Rattle.tick_model.specs.Names.{is_one_of}
use Rattle.tick_model.proofs.names.is_named.Given as goal

abbrev pub invariant-loop-item : goal.invariant-loop-item
invariant-loop-item g l = is_one_of (map g.T.Named.named (drop l.item-index l.items)) l.name ≡ is_one_of (map g.T.Named.named l.items) l.name
