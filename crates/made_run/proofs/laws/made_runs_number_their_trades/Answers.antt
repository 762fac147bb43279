use Rattle.made_run.proofs.Unspoiled.{numbered}
use Rattle.made_run.proofs.laws.made_runs_number_their_trades.Goals as goal

pub returns : goal.returns
returns c steps step few = numbered steps few step
