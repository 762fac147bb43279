use Rattle.made_run.proofs.Unspoiled.{none_is_spoiled}
use Rattle.made_run.proofs.laws.made_runs_have_no_spoiled_step.Goals as goal

pub returns : goal.returns
returns c = none_is_spoiled
