use Rattle.feed_reader.proofs.AssembledLemmas.{run_is_lawful}
use Rattle.feed_reader.proofs.laws.assembled_runs_are_lawful.Goals as goal

pub returns : goal.returns
returns c = run_is_lawful
