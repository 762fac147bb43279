use Rattle.run_output.proofs.RunEntries.{nodes_shown}
use Rattle.run_output.proofs.laws.nodes_of_runs_are_shown.Goals as goal

pub returns : goal.returns
returns c = nodes_shown
