use Rattle.std.proofs.Common.{◌≡◌, map}
use Rattle.sort_op.specs.Firsts.{coming_of}
use Rattle.sort_op.proofs.arrivals.with_firsts.Given as goal

abbrev pub invariant-loop-row : goal.invariant-loop-row
invariant-loop-row l = l.coming.items ≡ map (coming_of l.by l.cells) l.yielded
