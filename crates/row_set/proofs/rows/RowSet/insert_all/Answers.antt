use Rattle.std.proofs.Common.{sym, ◌∙◌}
use Rattle.row_set.proofs.Batches.{empty_united}
use Rattle.row_set.proofs.rows.RowSet.insert_all.Goals as goal

pub returns-then-is_empty-clause-ok : goal.returns-then-is_empty-clause-ok
returns-then-is_empty-clause-ok c = empty_united c.args.keys.now c.args.self.now (sym c.is_empty.ensures.empty ∙ c.if-is_empty.true)
