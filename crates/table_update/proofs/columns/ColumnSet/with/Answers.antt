use Rattle.std.proofs.Common.{ap, ◌∙◌}
use Rattle.row_set.specs.Sets.{with_key}
use Rattle.table_update.proofs.ColumnLists.{columns-with}
use Rattle.table_update.proofs.columns.ColumnSet.with.Goals as goal

pub returns : goal.returns
returns c = columns-with c.self.inside.bits c.args.column c.requires ∙ ap (with_key c.args.column) c.self.view_is
