use Rattle.std.proofs.Common.{◌≡◌, ap, sym, ◌∙◌, subst, ℕ, ◌+◌, ◌*◌, ◌≤◌, None}
use Rattle.std.{specs.Prelude.sum, proofs.lemmas.Result.err_from_is_err_and}
use Rattle.row_changes.proofs.Comparing.{on_err}
use Rattle.tick_laws.specs.Operated.{operated}
use Rattle.tick_model.{specs.declared.table.PlainTable.PlainTable, specs.Changes.{Change, change_of}, specs.Operators.{fault_of, result_width}, specs.Updates.Tick}
use Rattle.tick_table.specs.Exact.{counted}
use Rattle.table_operator.{specs.Inputs.{counted_in, news, olds, tables}, specs.Made.{HasKeys, IsCause}}
use Rattle.operators.{specs.Inputs.{AreTables, AreTicks, IsShown}, specs.Operating.{Operating, StandsFor, made_of}, proofs.Stepped.{own_fault_is, own_tick_is, room_is}}
use Rattle.operators.proofs.operator.Operator.step.Goals as goal

pub advance-requires : goal.advance-requires
advance-requires g c =
    let inputs = tables c.args.inputs.now in
    let lent = subst (λ (operator : Operating). IsShown operator.op inputs c.args.own.now.new) (sym c.self.view_is) c.requires.shown in
    record {
      widths = c.requires.widths ∙ sym (ap (λ (operator : Operating). operator.widths) c.self.view_is);
      exact = c.requires.exact;
      rows = c.requires.rows;
      keys = c.self.invariant.keys (news inputs) (subst (λ (operator : Operating). HasKeys operator.op (news inputs)) (sym c.self.view_is) c.requires.keys);
      stands = subst (λ (operator : Operating). StandsFor operator (olds inputs)) (sym c.self.view_is) c.requires.stands;
      shown = lent.same ∙ ap (λ (own : Tick). own.old) (sym (own_tick_is c.self.inside.op.value (made_of c.self.inside.running) c.self.invariant inputs lent.tick lent.those));
    }

pub returns-clause-sound : goal.returns-clause-sound
returns-clause-sound g c =
    let running = c.self.inside.running in
    let inputs = tables c.args.inputs.now in
    subst (λ (operator : Operating). (table : ℕ → PlainTable) → AreTables operator.op table inputs → fault_of operator.op table ≡ None) c.self.view_is
    (λ table those. sym (own_fault_is c.self.inside.op.value (made_of running) c.self.invariant inputs table those) ∙ c.in_ok-running.ensures.sound)

pub returns-clause-change : goal.returns-clause-change
returns-clause-change g c =
    let running = c.self.inside.running in
    let inputs = tables c.args.inputs.now in
    subst (λ (operator : Operating). (tick : ℕ → Tick) → AreTicks operator.op tick inputs → c.in_ok-running.change ≡ change_of (operated operator.op tick)) c.self.view_is
    (λ tick those. c.in_ok-running.ensures.change ∙ ap change_of (own_tick_is c.self.inside.op.value (made_of running) c.self.invariant inputs tick those))

pub returns-clause-reads : goal.returns-clause-reads
returns-clause-reads g c =
    let running = c.self.inside.running in
    let inputs = tables c.args.inputs.now in
    subst (λ (operator : Operating). c.advance.new.reads ≤ c.args.reads.now + 4 * (sum operator.widths + result_width operator.op operator.widths) * (counted_in inputs + counted c.in_ok-running.change.update)) c.self.view_is
    (subst (λ width. c.advance.new.reads ≤ c.args.reads.now + 4 * (sum (made_of running).widths + width) * (counted_in inputs + counted c.in_ok-running.change.update)) (sym c.self.invariant.width)
    (subst (λ (change : Change). c.advance.new.reads ≤ c.args.reads.now + 4 * (sum (made_of running).widths + result_width (made_of running).op (made_of running).widths) * (counted_in inputs + counted change.update)) (sym c.in_ok-running.ensures.change) c.in_ok-running.ensures.reads))

pub returns-in_err-running-clause-cause : goal.returns-in_err-running-clause-cause
returns-in_err-running-clause-cause g c =
    let running = c.self.inside.running in
    let inputs = tables c.args.inputs.now in
    let fault = c.in_err-running.field-0.0 in
    let p = err_from_is_err_and c.from_residual.result c.from_residual.ensures.1 in
    rw (p.1, p.2)
    (subst (λ (operator : Operating). (table : ℕ → PlainTable) → AreTables operator.op table inputs → IsCause fault (fault_of operator.op table)) c.self.view_is
    (λ table those. subst (IsCause fault) (own_fault_is c.self.inside.op.value (made_of running) c.self.invariant inputs table those) c.in_err-running.ensures.cause))

pub returns-in_err-running-clause-refused : goal.returns-in_err-running-clause-refused
returns-in_err-running-clause-refused g c =
    let running = c.self.inside.running in
    let inputs = tables c.args.inputs.now in
    on_err c.from_residual.result
    (subst (λ (operator : Operating). (tick : ℕ → Tick) → AreTicks operator.op tick inputs → c.advance.new.reads ≤ c.args.reads.now + 4 * (sum operator.widths + result_width operator.op operator.widths) * (counted_in inputs + counted (change_of (operated operator.op tick)).update)) c.self.view_is
    (λ tick those. subst (λ room. c.advance.new.reads ≤ c.args.reads.now + room) (room_is c.self.inside.op.value (made_of running) c.self.invariant inputs tick those) c.in_err-running.ensures.reads))
