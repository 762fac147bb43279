use Rattle.std.proofs.Common.{◌≡◌, ◌≤◌, ◌⊎◌, sym, subst}
use Rattle.host_run.proofs.run.Goals as goal

pub returns : goal.returns
returns g c = record { status = subst (λ status. (status ≤ 10) ⊎ (status ≡ 12)) (sym c.from.ensures) c.run_words.ensures }
