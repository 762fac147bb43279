use Rattle.snapshot_store.proofs.RuleSays.{holds_both, holds_one}
use Rattle.snapshot_store.proofs.laws.banks_hold_steps.Goals as goal

pub returns-clause-idle : goal.returns-clause-idle
returns-clause-idle c = λ key. holds_both key.value

pub returns-clause-updating : goal.returns-clause-updating
returns-clause-updating c = λ key. holds_one key.value
