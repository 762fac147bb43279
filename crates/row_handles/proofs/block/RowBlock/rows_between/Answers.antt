use Rattle.row_handles.proofs.Leaving.{order_of}
use Rattle.row_handles.proofs.block.RowBlock.rows_between.Goals as goal

pub returns-clause-order : goal.returns-clause-order
returns-clause-order c =
    order_of c.args.first c.args.last c.args.self.now.ceiling c.rows_below.result c.rows_below-2.result c.args.self.now.rows.items c.requires.order c.rows_below.ensures.within c.rows_below-2.ensures.within c.rows_below.ensures.below c.rows_below-2.ensures.others
