use Rattle.table_update.proofs.ColumnLists.{no_columns}
use Rattle.table_update.proofs.columns.ColumnSet.none.Goals as goal

pub returns : goal.returns
returns c = no_columns
