use Rattle.tick_laws.{proofs.LawfulSources.lawful_tables, proofs.ReachedTables.lesser_inputs}
use Rattle.tick_laws.proofs.runs.lawful_runs_have_tables.Goals as goal

pub returns-clause-tables : goal.returns-clause-tables
returns-clause-tables c = lawful_tables

pub returns-clause-inputs : goal.returns-clause-inputs
returns-clause-inputs c run h = lesser_inputs run.plan h.plan
