use Rattle.std.proofs.Common.{◌≡◌, ◌+◌, ◌*◌, ◌≤◌, subst, sym, List, [], ◌∷◌, length}
use Rattle.tick_model.specs.Changes.{Change, change_of}
use Rattle.tick_table.{specs.Exact.counted, specs.Ticking.Ticking}
use Rattle.table_operator.{specs.Inputs.tables, specs.Made.own_tick, proofs.Rooms.{count_is, two_room}}
use Rattle.lookup_join.specs.Made.{as_of_made}
use Rattle.lookup_join.proofs.in_plan.AsOfOpTableOperator.advance.Goals as goal

pub two_inputs-requires : goal.two_inputs-requires
two_inputs-requires g c = count_is (tables c.args.inputs.now) (c.args.self.left_width ∷ c.args.self.right_width ∷ []) c.requires.widths

pub returns-clause-change : goal.returns-clause-change
returns-clause-change g c = subst (λ (inputs : List Ticking). c.in_ok-step.field-0.1 ≡ change_of (own_tick (as_of_made c.args.self) inputs)) (sym c.two_inputs.ensures) c.in_ok-step.ensures.change

pub returns-clause-reads : goal.returns-clause-reads
returns-clause-reads g c =
    let left = c.two_inputs.result.0.now in
    let right = c.two_inputs.result.1.now in
    subst (λ room. c.step.new.reads ≤ c.args.reads.now + room) (sym (two_room (as_of_made c.args.self) (tables c.args.inputs.now) left right c.two_inputs.ensures c.requires.widths))
    (subst (λ (change : Change). c.step.new.reads ≤ c.args.reads.now + 4 * (left.new.width + right.new.width + (left.new.width + length c.args.self.take)) * (counted left.update + counted right.update + counted change.update)) c.in_ok-step.ensures.change c.in_ok-step.ensures.reads)

pub returns-in_err-step-clause-reads : goal.returns-in_err-step-clause-reads
returns-in_err-step-clause-reads g c =
    subst (λ room. c.step.new.reads ≤ c.args.reads.now + room) (sym (two_room (as_of_made c.args.self) (tables c.args.inputs.now) c.two_inputs.result.0.now c.two_inputs.result.1.now c.two_inputs.ensures c.requires.widths)) c.in_err-step.ensures.refused
