use Rattle.std.proofs.Common.{◌≡◌, take, Ok}
use Rattle.script_reader.specs.Checks.{each, pair_of}
use Rattle.script_reader.proofs.members.pairs_of.Given as goal

abbrev pub invariant-loop-pair : goal.invariant-loop-pair
invariant-loop-pair l = each (pair_of l.left l.right) (take l.pair-index l.pairs) ≡ Ok l.on
