use Rattle.std.proofs.Common.{◌∙◌}
use Rattle.row_handles.{proofs.Renaming.{none_before, ne_at}, specs.declared.block.BlockRow.BlockRow}
use Rattle.row_handles.proofs.drops.vacate.Goals as goal

pub loop-row-preserved : goal.loop-row-preserved
loop-row-preserved c = λ handle none.
    let some : BlockRow = record { depth = 0; handle = 0 } in
    c.try_remove.ensures.updates.others handle (ne_at handle c.args.rows.now c.loop-row.row-index _ c.loop-row-test.true none)
    ∙ c.loop-row.invariant handle (none_before handle c.args.rows.now c.loop-row.row-index some c.loop-row-test.true none)
