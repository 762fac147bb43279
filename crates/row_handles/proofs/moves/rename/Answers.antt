use Rattle.std.proofs.Common.{sym}
use Rattle.row_handles.{specs.declared.block.BlockRow.BlockRow, proofs.Renaming.{renamed_some, renamed_none}, proofs.moves.rename.Goals.{in-Some, in_default}}
use Rattle.row_handles.proofs.moves.rename.Goals as goal

pub loop-row-preserved : goal.loop-row-preserved
loop-row-preserved c =
    let none : BlockRow = record { depth = 0; handle = 0 } in
    elim c.match-get_mut.branch [
      | in-Some w ↦ renamed_some c.args.number c.args.rows.now c.loop-row.row-index none c.args.places.now c.loop-row.places c.match-get_mut.places w.in-Some.place.now c.loop-row-test.true c.loop-row.invariant w.in-Some.ensures.value w.places-is
      | in_default w ↦ renamed_none c.args.number c.args.rows.now c.loop-row.row-index none c.args.places.now c.loop-row.places c.match-get_mut.places c.loop-row-test.true c.loop-row.invariant (sym w.in_default.ensures.value) w.places-is
    ]
