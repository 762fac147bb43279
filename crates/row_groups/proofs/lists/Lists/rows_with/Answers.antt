use Rattle.std.proofs.Common.{◌∙◌, sym}
use Rattle.row_groups.proofs.Listed.{there_is_group}
use Rattle.row_groups.proofs.lists.Lists.rows_with.Goals as goal

pub index-requires : goal.index-requires
index-requires c = there_is_group c.args.cells.now c.in-Some.number c.args.self.now c.requires (sym c.get.ensures ∙ c.in-Some.is)
