use Rattle.snapshot_store.proofs.RuleSays.{keeps_limits}
use Rattle.snapshot_store.proofs.laws.counts_stay_within_limits.Goals as goal

pub returns : goal.returns
returns c = λ key. keeps_limits key.value
