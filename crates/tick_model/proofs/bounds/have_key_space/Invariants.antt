use Rattle.std.proofs.Common.{◌≡◌, ◌^◌, ◌<◌, take}
use Rattle.std.specs.List.{All}
use Rattle.tick_model.specs.Plans.{key_bounds}
use Rattle.tick_model.proofs.bounds.have_key_space.Given as goal

abbrev pub invariant-loop-i : goal.invariant-loop-i
invariant-loop-i l = (take l.i l.bounds ≡ key_bounds (take l.i l.nodes)) × All (λ bound. bound < 2 ^ 62) (take l.i l.bounds)
