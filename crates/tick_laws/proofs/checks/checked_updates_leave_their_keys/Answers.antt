use Rattle.tick_laws.proofs.CheckedUpdates.{keys-carry}
use Rattle.tick_laws.proofs.checks.checked_updates_leave_their_keys.Goals as goal

pub returns : goal.returns
returns c = keys-carry
