use Rattle.std.proofs.Common.{◌≡◌, ap, ◌∙◌, ◌+◌, ◌*◌, ◌≤◌, subst, sym, List, [], ◌∷◌, length}
use Rattle.tick_model.{specs.Changes.{Change, change_of}}
use Rattle.tick_table.{specs.Exact.counted, specs.Ticking.Ticking}
use Rattle.table_operator.{specs.Inputs.{news, olds, tables}, specs.Made.own_tick, proofs.Rooms.{count_is, one_room}}
use Rattle.agg_by.specs.Made.{KeepsFirst, agg_made}
use Rattle.agg_by.proofs.in_plan.AggregationTableOperator.advance.Goals as goal

pub one_input-requires : goal.one_input-requires
one_input-requires g c = count_is (tables c.args.inputs.now) (c.args.self.width ∷ []) c.requires.widths

pub change-requires-clause-keeps : goal.change-requires-clause-keeps
change-requires-clause-keeps g c = subst (λ (inputs : List Ticking). KeepsFirst c.args.self (olds inputs)) c.one_input.ensures c.requires.stands

pub returns-clause-stands : goal.returns-clause-stands
returns-clause-stands g c = subst (λ (inputs : List Ticking). KeepsFirst c.in_ok-change.field-0.0 (news inputs)) (sym c.one_input.ensures) c.in_ok-change.ensures.keeps

pub returns-clause-change : goal.returns-clause-change
returns-clause-change g c = subst (λ (inputs : List Ticking). c.in_ok-change.field-0.1 ≡ change_of (own_tick (agg_made c.args.self) inputs)) (sym c.one_input.ensures) c.in_ok-change.ensures.change

pub returns-clause-reads : goal.returns-clause-reads
returns-clause-reads g c =
    let input = c.one_input.result.now in
    subst (λ room. c.change.new.reads ≤ c.args.reads.now + room) (sym (one_room (agg_made c.args.self) (tables c.args.inputs.now) input c.one_input.ensures c.requires.widths))
    (subst (λ (change : Change). c.change.new.reads ≤ c.args.reads.now + 4 * (input.new.width + (length c.args.self.by + length c.args.self.aggs)) * (counted input.update + counted change.update)) c.in_ok-change.ensures.change c.in_ok-change.ensures.reads)

pub returns-in_err-change-clause-reads : goal.returns-in_err-change-clause-reads
returns-in_err-change-clause-reads g c =
    subst (λ room. c.change.new.reads ≤ c.args.reads.now + room) (sym (one_room (agg_made c.args.self) (tables c.args.inputs.now) c.one_input.result.now c.one_input.ensures c.requires.widths)) c.in_err-change.ensures.refused

pub change-requires-clause-shown : goal.change-requires-clause-shown
change-requires-clause-shown g c = c.requires.shown ∙ ap (λ (inputs : List Ticking). (own_tick (agg_made c.args.self) inputs).old) c.one_input.ensures
