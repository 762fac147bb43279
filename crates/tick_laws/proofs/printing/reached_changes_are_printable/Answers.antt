use Rattle.tick_laws.proofs.FittingNodes.{node_printable}
use Rattle.tick_laws.proofs.printing.reached_changes_are_printable.Goals as goal

pub returns : goal.returns
returns c = node_printable
