use Rattle.std.proofs.Common.{◌+◌, ◌*◌, ◌/◌, ◌%◌, ◌^◌, ap}
use Rattle.std.proofs.Math.Nat.{mod-add-mod}
use Rattle.made_run.specs.Draws.{draw, next}
use Rattle.made_run.proofs.draws.Draws.below.Goals as goal

pub returns-clause-value : goal.returns-clause-value
unfolding draw next
returns-clause-value c = ap (λ state. state / 2 ^ 33 % c.args.limit) (mod-add-mod (c.args.self.now.state * 6364136223846793005) (2 ^ 64) 1442695040888963407)

pub returns-clause-state : goal.returns-clause-state
unfolding next
returns-clause-state c = mod-add-mod (c.args.self.now.state * 6364136223846793005) (2 ^ 64) 1442695040888963407
