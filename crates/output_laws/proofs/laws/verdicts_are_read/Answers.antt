use Rattle.output_laws.proofs.VerdictEntries.{verdict_are, verdict_told}
use Rattle.output_laws.proofs.laws.verdicts_are_read.Goals as goal

pub returns-clause-text : goal.returns-clause-text
returns-clause-text c = verdict_told

pub returns-clause-entries : goal.returns-clause-entries
returns-clause-entries c = verdict_are
