use Rattle.std.proofs.Common.{arith}
use Rattle.tick_model.specs.Rules.{landed}
use Rattle.key_lists.specs.Keys.{without}
use Rattle.tick_laws.proofs.CheckedUpdates.{among-put_keys, keys_after-rise, keys_after-below}
use Rattle.tick_laws.proofs.checks.checked_keys_are_exact.Goals as goal

pub returns-clause-members : goal.returns-clause-members
returns-clause-members c old update key = among-put_keys key update.added (landed update.shifted (without update.removed old))

pub returns-clause-rise : goal.returns-clause-rise
returns-clause-rise c = keys_after-rise

pub returns-clause-below : goal.returns-clause-below
returns-clause-below c limit old update h = keys_after-below limit old update h limit (omega arith)
