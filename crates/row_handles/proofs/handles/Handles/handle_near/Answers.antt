use Rattle.row_handles.proofs.Handled.{handled}
use Rattle.row_handles.proofs.handles.Handles.handle_near.Goals as goal

pub returns-clause-rows : goal.returns-clause-rows
returns-clause-rows c = rw (← c.self.view_is) (handled c.self.inside.index c.self.invariant)
