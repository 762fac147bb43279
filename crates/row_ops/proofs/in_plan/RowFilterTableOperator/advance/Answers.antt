use Rattle.std.proofs.Common.{◌≡◌, ◌∙◌, ap, ◌+◌, ◌*◌, ◌≤◌, subst, sym, List}
use Rattle.tick_model.{specs.Changes.{Change, change_of}, specs.Tables.keys, specs.declared.table.PlainTable.PlainTable}
use Rattle.tick_table.{specs.Exact.counted, specs.Ticking.Ticking}
use Rattle.table_operator.{specs.Inputs.tables, specs.Made.own_tick, proofs.Rooms.one_room}
use Rattle.row_ops.specs.Made.{filter_made}
use Rattle.row_ops.proofs.in_plan.RowFilterTableOperator.advance.Goals as goal

pub change-requires-clause-shown : goal.change-requires-clause-shown
change-requires-clause-shown g c =
    subst (λ (inputs : List Ticking). c.rows.result.now ≡ keys (own_tick (filter_made c.args.self) inputs).old.rows) c.one_input.ensures
    (c.rows.ensures.keys ∙ ap (λ (own : PlainTable). keys own.rows) c.requires.shown)

pub returns-clause-change : goal.returns-clause-change
returns-clause-change g c = subst (λ (inputs : List Ticking). c.in_ok-change.change ≡ change_of (own_tick (filter_made c.args.self) inputs)) (sym c.one_input.ensures) c.in_ok-change.ensures.change

pub returns-clause-reads : goal.returns-clause-reads
returns-clause-reads g c =
    let input = c.one_input.result.now in
    subst (λ room. c.change.new.reads ≤ c.args.reads.now + room) (sym (one_room (filter_made c.args.self) (tables c.args.inputs.now) input c.one_input.ensures c.requires.widths))
    (subst (λ (change : Change). c.change.new.reads ≤ c.args.reads.now + 4 * (input.new.width + input.new.width) * (counted input.update + counted change.update)) c.in_ok-change.ensures.change c.in_ok-change.ensures.reads)

pub returns-in_err-change-clause-reads : goal.returns-in_err-change-clause-reads
returns-in_err-change-clause-reads g c =
    subst (λ room. c.change.new.reads ≤ c.args.reads.now + room) (sym (one_room (filter_made c.args.self) (tables c.args.inputs.now) c.one_input.result.now c.one_input.ensures c.requires.widths)) c.in_err-change.ensures.refused
