use Rattle.std.proofs.Common.{◌≡◌, take, Ok}
use Rattle.script_reader.specs.Checks.{each, taken_of}
use Rattle.script_reader.proofs.members.all_taken.Given as goal

abbrev pub invariant-loop-pair : goal.invariant-loop-pair
invariant-loop-pair l = each (taken_of l.right) (take l.pair-index l.pairs) ≡ Ok l.taken
