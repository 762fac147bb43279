use Rattle.std.proofs.Common.{ap, ap₂, sym, ◌∙◌, subst, ◌+◌, ◌<◌, ◌≤◌, ℕ, List, length}
use Rattle.std.specs.List.{AllByRecursion}
use Rattle.lookup_join.{specs.declared.keyed.Side.TheVariants.{Left, Right}, specs.declared.pick.Pick.TheVariants.Latest, specs.Matcher.{Matcher, Stands, matched_ticks, standing}, specs.Keyed.indexed, specs.Matched.matched_tick, proofs.Stepping.step_within}
use Rattle.row_changes.proofs.Comparing.{on_err}
use Rattle.row_groups.specs.Members.{Grouped}
use Rattle.tick_model.{specs.Changes.change_of, specs.declared.plan.OnPair.OnPair}
use Rattle.tick_table.specs.Exact.{counted, tick_of}
use Rattle.lookup_join.proofs.as_of_op.AsOfOp.step.Goals as goal

pub lookup_step-requires-clause-few : goal.lookup_step-requires-clause-few
lookup_step-requires-clause-few g c =
    subst (λ (take : List ℕ). c.args.left.now.new.width + length take ≤ 32) (sym c.as_slice-2.ensures)
    (subst (λ (width : ℕ). width + length c.self.inside.take ≤ 32) (sym (c.requires.left_width ∙ ap (λ (matcher : Matcher). matcher.left_width) (sym c.self.view_is))) c.self.invariant.few)

pub lookup_step-requires-clause-take : goal.lookup_step-requires-clause-take
lookup_step-requires-clause-take g c =
    subst (λ (take : List ℕ). AllByRecursion (λ column. column < c.args.right.now.new.width) take) (sym c.as_slice-2.ensures)
    (subst (λ (width : ℕ). AllByRecursion (λ column. column < width) c.self.inside.take) (sym (c.requires.right_width ∙ ap (λ (matcher : Matcher). matcher.right_width) (sym c.self.view_is))) c.self.invariant.taken)

pub lookup_step-requires-clause-left_rows : goal.lookup_step-requires-clause-left_rows
lookup_step-requires-clause-left_rows g c =
    let stands = subst (λ (matcher : Matcher). Stands matcher c.args.left.now.old c.args.right.now.old) (sym c.self.view_is) c.requires.stands in
    stands.left_rows ∙ ap (λ (on : List OnPair). indexed Left on (Latest c.self.inside.at) c.args.left.now.old.rows) (sym c.as_slice.ensures)

pub lookup_step-requires-clause-right_rows : goal.lookup_step-requires-clause-right_rows
lookup_step-requires-clause-right_rows g c =
    let stands = subst (λ (matcher : Matcher). Stands matcher c.args.left.now.old c.args.right.now.old) (sym c.self.view_is) c.requires.stands in
    stands.right_rows ∙ ap (λ (on : List OnPair). indexed Right on (Latest c.self.inside.at) c.args.right.now.old.rows) (sym c.as_slice.ensures)

pub returns-clause-stands : goal.returns-clause-stands
returns-clause-stands g c =
    ap₂ (λ (left : Grouped) (right : Grouped). let matcher : Matcher = record { on = c.self.inside.on; at = c.self.inside.at; take = c.self.inside.take; left_width = c.self.inside.left_width; right_width = c.self.inside.right_width; left = left; right = right } in matcher)
    (c.in_ok-change.ensures.left_rows ∙ ap (λ (on : List OnPair). indexed Left on (Latest c.self.inside.at) c.args.left.now.new.rows) c.as_slice.ensures)
    (c.in_ok-change.ensures.right_rows ∙ ap (λ (on : List OnPair). indexed Right on (Latest c.self.inside.at) c.args.right.now.new.rows) c.as_slice.ensures)
    ∙ ap (λ (matcher : Matcher). standing matcher c.args.left.now.new c.args.right.now.new) c.self.view_is

pub returns-clause-change : goal.returns-clause-change
returns-clause-change g c =
    c.in_ok-change.ensures.change
    ∙ ap₂ (λ (on : List OnPair) (take : List ℕ). change_of (matched_ticks on c.self.inside.at take (tick_of c.args.left.now) (tick_of c.args.right.now))) c.as_slice.ensures c.as_slice-2.ensures
    ∙ ap (λ (matcher : Matcher). change_of (matched_ticks matcher.on matcher.at matcher.take (tick_of c.args.left.now) (tick_of c.args.right.now))) c.self.view_is

pub returns-in_err-change-clause-refused : goal.returns-in_err-change-clause-refused
returns-in_err-change-clause-refused g c =
    on_err c.from_residual.result
    (step_within c.lookup_step.new.reads c.args.reads.now c.args.left.now.new.width c.args.right.now.new.width (length c.as_slice-2.result.now) (length c.args.self.take) (counted c.args.left.now.update + counted c.args.right.now.update)
    (change_of (matched_tick c.as_slice.result.now (Latest c.self.inside.at) c.as_slice-2.result.now (tick_of c.args.left.now) (tick_of c.args.right.now)))
    (change_of (matched_ticks c.args.self.on c.args.self.at c.args.self.take (tick_of c.args.left.now) (tick_of c.args.right.now)))
    c.lookup_step.ensures.reads
    (ap₂ (λ (on : List OnPair) (take : List ℕ). change_of (matched_ticks on c.self.inside.at take (tick_of c.args.left.now) (tick_of c.args.right.now))) c.as_slice.ensures c.as_slice-2.ensures
    ∙ ap (λ (matcher : Matcher). change_of (matched_ticks matcher.on matcher.at matcher.take (tick_of c.args.left.now) (tick_of c.args.right.now))) c.self.view_is)
    (ap length c.as_slice-2.ensures ∙ ap (λ (matcher : Matcher). length matcher.take) c.self.view_is))

pub returns-clause-reads : goal.returns-clause-reads
returns-clause-reads g c =
    step_within c.lookup_step.new.reads c.args.reads.now c.args.left.now.new.width c.args.right.now.new.width (length c.as_slice-2.result.now) (length c.args.self.take) (counted c.args.left.now.update + counted c.args.right.now.update)
    (change_of (matched_tick c.as_slice.result.now (Latest c.self.inside.at) c.as_slice-2.result.now (tick_of c.args.left.now) (tick_of c.args.right.now))) _
    c.lookup_step.ensures.reads (sym c.in_ok-change.ensures.change) (ap length c.as_slice-2.ensures ∙ ap (λ (matcher : Matcher). length matcher.take) c.self.view_is)
