use Rattle.host_run.proofs.Statuses.{some_status}
use Rattle.host_run.proofs.run_words.Goals as goal

pub returns : goal.returns
returns g c = some_status c.tick_main.result c.tick_main.ensures.statuses
