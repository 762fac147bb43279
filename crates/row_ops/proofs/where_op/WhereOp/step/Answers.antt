use Rattle.std.proofs.Common.{◌≡◌, ap, ap₂, sym, ◌∙◌, subst, ℕ, List, ◌+◌, ◌*◌, ◌≤◌}
use Rattle.row_changes.proofs.Comparing.{on_err}
use Rattle.row_ops.{specs.Filter.{Filter, filtered}, proofs.Crossed.{new_part, old_part}}
use Rattle.shown_rows.proofs.Restricted.{keys_shown, lawful_shown}
use Rattle.tick_laws.specs.Checked.{keys_after}
use Rattle.tick_model.{specs.Changes.{Change, change_of}, specs.Formulas.truth, specs.Tables.keys, specs.Updates.between, specs.Where.where_table}
use Rattle.tick_table.specs.Exact.{counted, tick_of}
use Rattle.row_ops.proofs.where_op.WhereOp.step.Goals as goal

pub change-requires-clause-width : goal.change-requires-clause-width
change-requires-clause-width g c = c.requires.width ∙ ap (λ (filter : Filter). filter.width) (sym c.self.view_is)

pub change-requires-clause-shown : goal.change-requires-clause-shown
change-requires-clause-shown g c = subst (λ (filter : Filter). filter.shown ≡ keys (where_table filter.test c.args.input.now.old).rows) (sym c.self.view_is) c.requires.stands

pub apply_to_keys-requires : goal.apply_to_keys-requires
apply_to_keys-requires g c =
    let t = c.args.input.now in
    let test = c.self.inside.filter.test in
    let shown : c.self.inside.shown ≡ keys (where_table test t.old).rows = subst (λ (filter : Filter). filter.shown ≡ keys (where_table filter.test t.old).rows) (sym c.self.view_is) c.requires.stands in
    let update : c.change-2.inside.update ≡ between (filtered test (tick_of t)) = ap (λ (change : Change). change.update) (c.change-2.view_is ∙ c.in_ok-change.ensures.change) in
    rw (update, shown) (lawful_shown t c.requires.exact (where_table test) (old_part (truth test) t c.requires.exact) (new_part (truth test) t c.requires.exact))

pub returns-clause-stands : goal.returns-clause-stands
returns-clause-stands g c =
    let t = c.args.input.now in
    let own = c.self.inside.filter in
    let shown : c.self.inside.shown ≡ keys (where_table own.test t.old).rows = subst (λ (filter : Filter). filter.shown ≡ keys (where_table filter.test t.old).rows) (sym c.self.view_is) c.requires.stands in
    let update : c.change-2.inside.update ≡ between (filtered own.test (tick_of t)) = ap (λ (change : Change). change.update) (c.change-2.view_is ∙ c.in_ok-change.ensures.change) in
    ap (λ (shown : List ℕ). let filter : Filter = record { test = own.test; width = own.width; shown = shown } in filter)
    (c.in_ok-shown.ensures ∙ ap₂ keys_after shown update ∙ keys_shown t c.requires.exact (where_table own.test) (old_part (truth own.test) t c.requires.exact) (new_part (truth own.test) t c.requires.exact))
    ∙ ap (λ (filter : Filter). let after : Filter = record { test = filter.test; width = filter.width; shown = keys (where_table filter.test t.new).rows } in after) c.self.view_is

pub returns-clause-change : goal.returns-clause-change
returns-clause-change g c = c.in_ok-change.ensures.change ∙ ap (λ (filter : Filter). change_of (filtered filter.test (tick_of c.args.input.now))) c.self.view_is

pub returns-clause-reads : goal.returns-clause-reads
returns-clause-reads g c = c.in_ok-change.ensures.reads

pub returns-in_err-change-clause-refused : goal.returns-in_err-change-clause-refused
returns-in_err-change-clause-refused g c =
    let t = c.args.input.now in
    on_err c.from_residual.result
    (subst (λ (filter : Filter). c.change.new.reads ≤ c.args.reads.now + 4 * (t.new.width + t.new.width) * (counted t.update + counted (between (filtered filter.test (tick_of t))))) c.self.view_is c.in_err-change.ensures.refused)

pub returns-in_err-shown-clause-refused : goal.returns-in_err-shown-clause-refused
returns-in_err-shown-clause-refused g c =
    let t = c.args.input.now in
    on_err c.from_residual-in_err-shown.result
    (subst (λ (change : Change). c.change.new.reads ≤ c.args.reads.now + 4 * (t.new.width + t.new.width) * (counted t.update + counted change.update))
    (c.in_ok-change.ensures.change ∙ ap (λ (filter : Filter). change_of (filtered filter.test (tick_of t))) c.self.view_is) c.in_ok-change.ensures.reads)
