use Rattle.std.proofs.Common.{◌≡◌, ap, ap₂, sym, ◌∙◌, subst, ℕ, List, ◌+◌, ◌*◌, ◌≤◌}
use Rattle.row_changes.proofs.Comparing.{on_err}
use Rattle.head_tail.{specs.Ends.{Kept, end_table, ended}, proofs.Crossed.ended_is, proofs.Parts.end_part}
use Rattle.shown_rows.{specs.Shown.through, proofs.Restricted.{keys_shown, lawful_shown}}
use Rattle.tick_laws.specs.Checked.{keys_after}
use Rattle.tick_model.{specs.Changes.{Change, change_of}, specs.Tables.keys, specs.Updates.between}
use Rattle.tick_table.specs.Exact.{counted, tick_of}
use Rattle.head_tail.proofs.end_op.EndOp.step.Goals as goal

pub change-requires-clause-shown : goal.change-requires-clause-shown
change-requires-clause-shown g c = subst (λ (kept : Kept). kept.shown ≡ keys (end_table g.E.AtEnd.end kept.count c.args.input.now.old).rows) (sym c.self.view_is) c.requires.stands

pub apply_to_keys-requires : goal.apply_to_keys-requires
apply_to_keys-requires g c =
    let t = c.args.input.now in
    let end = g.E.AtEnd.end in
    let count = c.self.inside.rows.count in
    let shown : c.self.inside.shown ≡ keys (end_table end count t.old).rows = subst (λ (kept : Kept). kept.shown ≡ keys (end_table end kept.count t.old).rows) (sym c.self.view_is) c.requires.stands in
    let update : c.change-2.inside.update ≡ between (through (end_table end count) (tick_of t)) =
    ap (λ (change : Change). change.update) (c.change-2.view_is ∙ c.in_ok-change.ensures.change) ∙ ap between (sym (ended_is end count (tick_of t))) in
    rw (update, shown) (lawful_shown t c.requires.exact (end_table end count) (end_part end count t.old c.requires.exact.tick.old_table) (end_part end count t.new c.requires.exact.tick.new_table))

pub returns-clause-stands : goal.returns-clause-stands
returns-clause-stands g c =
    let t = c.args.input.now in
    let end = g.E.AtEnd.end in
    let own = c.self.inside.rows in
    let shown : c.self.inside.shown ≡ keys (end_table end own.count t.old).rows = subst (λ (kept : Kept). kept.shown ≡ keys (end_table end kept.count t.old).rows) (sym c.self.view_is) c.requires.stands in
    let update : c.change-2.inside.update ≡ between (through (end_table end own.count) (tick_of t)) =
    ap (λ (change : Change). change.update) (c.change-2.view_is ∙ c.in_ok-change.ensures.change) ∙ ap between (sym (ended_is end own.count (tick_of t))) in
    ap (λ (shown : List ℕ). let kept : Kept = record { count = own.count; width = own.width; shown = shown } in kept)
    (c.in_ok-shown.ensures ∙ ap₂ keys_after shown update
    ∙ keys_shown t c.requires.exact (end_table end own.count) (end_part end own.count t.old c.requires.exact.tick.old_table) (end_part end own.count t.new c.requires.exact.tick.new_table))
    ∙ ap (λ (kept : Kept). let after : Kept = record { count = kept.count; width = kept.width; shown = keys (end_table end kept.count t.new).rows } in after) c.self.view_is

pub returns-clause-change : goal.returns-clause-change
returns-clause-change g c = c.in_ok-change.ensures.change ∙ ap (λ (kept : Kept). change_of (ended g.E.AtEnd.end kept.count (tick_of c.args.input.now))) c.self.view_is

pub returns-clause-reads : goal.returns-clause-reads
returns-clause-reads g c = c.in_ok-change.ensures.reads

pub returns-in_err-change-clause-refused : goal.returns-in_err-change-clause-refused
returns-in_err-change-clause-refused g c =
    let t = c.args.input.now in
    on_err c.from_residual.result
    (subst (λ (kept : Kept). c.change.new.reads ≤ c.args.reads.now + 4 * (t.new.width + t.new.width) * (counted t.update + counted (between (ended g.E.AtEnd.end kept.count (tick_of t))))) c.self.view_is c.in_err-change.ensures.refused)

pub returns-in_err-shown-clause-refused : goal.returns-in_err-shown-clause-refused
returns-in_err-shown-clause-refused g c =
    let t = c.args.input.now in
    on_err c.from_residual-in_err-shown.result
    (subst (λ (change : Change). c.change.new.reads ≤ c.args.reads.now + 4 * (t.new.width + t.new.width) * (counted t.update + counted change.update))
    (c.in_ok-change.ensures.change ∙ ap (λ (kept : Kept). change_of (ended g.E.AtEnd.end kept.count (tick_of t))) c.self.view_is) c.in_ok-change.ensures.reads)
