use Rattle.script_laws.proofs.Lawful.{bound_lawful, script_written}
use Rattle.feed_reader.proofs.AssembledLemmas.{run_is_lawful}
use Rattle.feed_reader.proofs.laws.read_runs_are_lawful.Goals as goal

pub returns : goal.returns
returns c lines script tables bytes feed run read assembled opened fed room =
    let written = script_written lines script read in
    run_is_lawful script tables bytes feed run assembled opened fed room (bound_lawful lines script run.texts read) written.numbers written.literals
