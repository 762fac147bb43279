use Rattle.std.proofs.Common.{ap, ◌∙◌, arith}
use Rattle.tick_model.specs.Changes.{is_none}
use Rattle.table_update.proofs.ColumnLists.{is_none-columns}
use Rattle.table_update.proofs.columns.ColumnSet.is_empty.Goals as goal

pub returns : goal.returns
returns c = is_none-columns c.self.inside.bits (omega arith) ∙ ap is_none c.self.view_is
