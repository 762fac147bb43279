use Rattle.replay.specs.Outcomes.{last_written}
use Rattle.output_laws.proofs.WrittenEntries.{entries_are, text_is}
use Rattle.output_laws.proofs.laws.runs_are_read.Goals as goal

pub returns-clause-text : goal.returns-clause-text
returns-clause-text c run knobs choice = text_is run (last_written run knobs) choice

pub returns-clause-entries : goal.returns-clause-entries
returns-clause-entries c run h knobs callers snaps choice lawful = entries_are run h knobs callers snaps choice lawful
