use Rattle.tick_laws.{proofs.LawfulSources.sources_bounded, proofs.ReachedTables.bounded_at}
use Rattle.tick_laws.proofs.runs.lawful_runs_stay_within_bounds.Goals as goal

pub returns-clause-sources : goal.returns-clause-sources
returns-clause-sources c = sources_bounded

pub returns-clause-nodes : goal.returns-clause-nodes
returns-clause-nodes c = bounded_at
