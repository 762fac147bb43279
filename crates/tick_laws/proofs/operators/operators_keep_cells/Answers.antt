use Rattle.tick_laws.proofs.ResultCells.{result_cells}
use Rattle.tick_laws.proofs.operators.operators_keep_cells.Goals as goal

pub returns : goal.returns
returns c = result_cells
