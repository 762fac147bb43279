use Rattle.std.proofs.Common.{ap₂, ◌∙◌}
use Rattle.row_set.specs.Sets.{united}
use Rattle.table_update.proofs.ColumnLists.{columns-union}
use Rattle.table_update.proofs.columns.ColumnSet.union.Goals as goal

pub returns : goal.returns
returns c = columns-union c.self.inside.bits c.other.inside.bits ∙ ap₂ united c.self.view_is c.other.view_is
