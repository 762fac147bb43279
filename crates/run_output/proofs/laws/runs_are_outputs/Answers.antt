use Rattle.run_output.proofs.RunTexts.{snapshots_told, updates_told}
use Rattle.run_output.proofs.laws.runs_are_outputs.Goals as goal

pub returns-clause-updates : goal.returns-clause-updates
returns-clause-updates c = updates_told

pub returns-clause-snapshots : goal.returns-clause-snapshots
returns-clause-snapshots c = snapshots_told
