use Rattle.std.proofs.Common.{◌≡◌, ap, ap₂, sym, ◌∙◌, subst, ℕ, List, ◌+◌, ◌*◌, ◌≤◌}
use Rattle.std.specs.List.{AllByRecursion}
use Rattle.row_changes.proofs.Comparing.{on_err}
use Rattle.tick_laws.specs.Checked.{keys_after}
use Rattle.tick_model.{specs.Changes.Change, specs.Tables.keys, specs.Updates.between}
use Rattle.tick_table.{proofs.Between.{between_lawful, keys_after_between}, specs.Exact.counted, specs.Ticking.Ticking}
use Rattle.table_operator.specs.Inputs.{counted_in, tables}
use Rattle.merge_op.specs.Merged.{Merger, merged}
use Rattle.merge_op.proofs.merge_op.MergeOp.step.Goals as goal

pub change-requires-clause-count : goal.change-requires-clause-count
change-requires-clause-count g c = c.requires.count ∙ ap (λ (merger : Merger). merger.count) (sym c.self.view_is)

pub change-requires-clause-widths : goal.change-requires-clause-widths
change-requires-clause-widths g c = subst (λ (merger : Merger). AllByRecursion (λ (t : Ticking). t.new.width ≡ merger.width) (tables c.args.inputs.now)) (sym c.self.view_is) c.requires.widths

pub change-requires-clause-shown : goal.change-requires-clause-shown
change-requires-clause-shown g c = ap (λ (merger : Merger). merger.shown) c.self.view_is ∙ c.requires.stands

pub apply_to_keys-requires : goal.apply_to_keys-requires
apply_to_keys-requires g c =
    let tick = merged (tables c.args.inputs.now) in
    let shown : c.self.inside.shown ≡ keys tick.old.rows = ap (λ (merger : Merger). merger.shown) c.self.view_is ∙ c.requires.stands in
    let update : c.change-2.inside.update ≡ between tick = ap (λ (change : Change). change.update) (c.change-2.view_is ∙ c.in_ok-change.ensures.change) in
    rw (update, shown) (between_lawful tick c.in_ok-change.ensures.tick)

pub returns-clause-stands : goal.returns-clause-stands
returns-clause-stands g c =
    let tick = merged (tables c.args.inputs.now) in
    let own = c.self.inside.merge in
    let shown : c.self.inside.shown ≡ keys tick.old.rows = ap (λ (merger : Merger). merger.shown) c.self.view_is ∙ c.requires.stands in
    let update : c.change-2.inside.update ≡ between tick = ap (λ (change : Change). change.update) (c.change-2.view_is ∙ c.in_ok-change.ensures.change) in
    ap (λ (shown : List ℕ). let merger : Merger = record { count = own.count; width = own.width; shown = shown } in merger)
    (c.in_ok-shown.ensures ∙ ap₂ keys_after shown update ∙ keys_after_between tick c.in_ok-change.ensures.tick)
    ∙ ap (λ (merger : Merger). let after : Merger = record { count = merger.count; width = merger.width; shown = keys tick.new.rows } in after) c.self.view_is

pub returns-clause-change : goal.returns-clause-change
returns-clause-change g c = c.in_ok-change.ensures.change

pub returns-clause-reads : goal.returns-clause-reads
returns-clause-reads g c =
    subst (λ (merger : Merger). c.change.new.reads ≤ c.args.reads.now + 4 * (merger.count * merger.width + merger.width) * (counted_in (tables c.args.inputs.now) + counted c.in_ok-change.change.update)) c.self.view_is c.in_ok-change.ensures.reads

pub returns-in_err-change-clause-refused : goal.returns-in_err-change-clause-refused
returns-in_err-change-clause-refused g c =
    let inputs = tables c.args.inputs.now in
    on_err c.from_residual.result
    (subst (λ (merger : Merger). c.change.new.reads ≤ c.args.reads.now + 4 * (merger.count * merger.width + merger.width) * (counted_in inputs + counted (between (merged inputs)))) c.self.view_is c.in_err-change.ensures.refused)

pub returns-in_err-shown-clause-refused : goal.returns-in_err-shown-clause-refused
returns-in_err-shown-clause-refused g c =
    let inputs = tables c.args.inputs.now in
    on_err c.from_residual-in_err-shown.result
    (subst (λ (change : Change). c.change.new.reads ≤ c.args.reads.now + 4 * (c.args.self.count * c.args.self.width + c.args.self.width) * (counted_in inputs + counted change.update)) c.in_ok-change.ensures.change
    (subst (λ (merger : Merger). c.change.new.reads ≤ c.args.reads.now + 4 * (merger.count * merger.width + merger.width) * (counted_in inputs + counted c.in_ok-change.change.update)) c.self.view_is c.in_ok-change.ensures.reads))
