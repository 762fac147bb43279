use Rattle.std.proofs.Common.{ap, ◌∙◌}
use Rattle.row_handles.{specs.Entries.left_rows, specs.Blocks.rows, proofs.Leaving.{left_by_keys, ordered_ranges, small_ranges}}
use Rattle.row_handles.proofs.handles.Handles.remove.Goals as goal

pub leave_ranges-requires-clause-order : goal.leave_ranges-requires-clause-order
leave_ranges-requires-clause-order c = ordered_ranges c.ranges-2.result.now c.ranges-2.ensures.apart

pub leave_ranges-requires-clause-small : goal.leave_ranges-requires-clause-small
leave_ranges-requires-clause-small c = small_ranges c.ranges-2.result.now c.ranges-2.ensures.apart

pub returns : goal.returns
returns c =
    c.leave_ranges.ensures.rows
    ∙ left_by_keys c.ranges-2.result.now (rows c.self.inside.index.blocks.items)
    ∙ ap (λ keys. left_rows keys (rows c.self.inside.index.blocks.items)) c.ranges-2.ensures.held
    ∙ ap (left_rows c.args.keys.now) c.self.view_is
