use Rattle.std.proofs.Common.{ap, sym, ◌∙◌}
use Rattle.merge_op.{specs.Regions.room_in, proofs.Roomy.{room_is, room_small}}
use Rattle.merge_op.proofs.starts.room_in.Goals as goal

pub returns-in-Before-clause-room : goal.returns-in-Before-clause-room
returns-in-Before-clause-room c =
    let t = c.args.input.now in
    room_is t.old c.prev_rows.result.now c.room_for.result c.prev_rows.ensures.keys c.room_for.ensures ∙ ap (λ version. room_in version t) (sym c.in-Before.is)

pub returns-in-Before-clause-small : goal.returns-in-Before-clause-small
returns-in-Before-clause-small c = room_small c.args.input.now.old c.prev_rows.result.now c.room_for.result c.prev_rows.ensures.table c.prev_rows.ensures.keys c.room_for.ensures

pub returns-in-Now-clause-room : goal.returns-in-Now-clause-room
returns-in-Now-clause-room c =
    let t = c.args.input.now in
    room_is t.new c.rows.result.now c.room_for-in-Now.result c.rows.ensures.keys c.room_for-in-Now.ensures ∙ ap (λ version. room_in version t) (sym c.in-Now.is)

pub returns-in-Now-clause-small : goal.returns-in-Now-clause-small
returns-in-Now-clause-small c = room_small c.args.input.now.new c.rows.result.now c.room_for-in-Now.result c.rows.ensures.table c.rows.ensures.keys c.room_for-in-Now.ensures
