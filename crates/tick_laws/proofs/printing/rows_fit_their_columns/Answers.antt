use Rattle.tick_laws.proofs.FittingNodes.{node_fits}
use Rattle.tick_laws.proofs.printing.rows_fit_their_columns.Goals as goal

pub returns : goal.returns
returns c = node_fits
