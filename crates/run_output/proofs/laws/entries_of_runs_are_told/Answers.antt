use Rattle.run_output.proofs.RunTold.{snapshots_are, updates_are}
use Rattle.run_output.proofs.laws.entries_of_runs_are_told.Goals as goal

pub returns-clause-updates : goal.returns-clause-updates
returns-clause-updates c = updates_are

pub returns-clause-snapshots : goal.returns-clause-snapshots
returns-clause-snapshots c = snapshots_are
