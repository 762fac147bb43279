use Rattle.std.proofs.Common.{rules}
use Rattle.std.proofs.iter.runs.Made.{chains}
use Rattle.source_changes.proofs.changes.place_of.Goals as goal

pub returns : goal.returns
returns c = search (rules, chains)
