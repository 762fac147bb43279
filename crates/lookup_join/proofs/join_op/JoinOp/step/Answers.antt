use Rattle.std.proofs.Common.{◌≡◌, refl, ap, ap₂, sym, ◌∙◌, subst, ◌+◌, ◌*◌, ◌<◌, ◌≤◌, ℕ, List, length}
use Rattle.std.{specs.Prelude.option_map, specs.List.AllByRecursion}
use Rattle.lookup_join.{specs.declared.keyed.Side.TheVariants.{Left, Right}, specs.declared.pick.Pick.Pick, specs.Joiner.{Joiner, Stands, joined_ticks, standing}, specs.Keyed.indexed, specs.Matched.{matched_tick, pick_of}, proofs.Faults.{came_members, node_of, told_is}, proofs.Stepping.step_within}
use Rattle.row_changes.proofs.Comparing.{on_err}
use Rattle.row_groups.specs.Members.{Grouped}
use Rattle.tick_model.{specs.Changes.change_of, specs.declared.plan.OnPair.OnPair, specs.declared.plan.Choice.Choice, specs.declared.plan.Choice.TheVariants.{Error, First, Last}, specs.Join.join_fault, specs.Updates.Tick, specs.declared.table.PlainTable.PlainTable}
use Rattle.tick_table.{specs.Exact.{counted, tick_of}, specs.Ticking.Ticking}
use Rattle.lookup_join.proofs.join_op.JoinOp.step.Goals as goal

-- what a choice takes makes the join's own table
ticks : (choice : Choice) (on : List OnPair) (take : List ℕ) (left right : Tick) → matched_tick on (pick_of choice) take left right ≡ joined_ticks on take choice left right
ticks Error on take left right = refl
ticks First on take left right = refl
ticks Last on take left right = refl

-- what it makes with the parts that it is taken apart into is its own
module _ (inside self : Joiner) (view_is : inside ≡ self) (on : List OnPair) (of_on : on ≡ inside.on) where
  own_fault : (left right : PlainTable) → join_fault self.on self.choice left right ≡ join_fault on inside.choice left right
  own_fault left right = ap (λ (joiner : Joiner). join_fault joiner.on joiner.choice left right) (sym view_is) ∙ ap (λ (on : List OnPair). join_fault on inside.choice left right) (sym of_on)

  module _ (take : List ℕ) (of_take : take ≡ inside.take) (pick : Pick) (of_pick : pick ≡ pick_of inside.choice) (left right : Ticking) where
    own_change : change_of (matched_tick on pick take (tick_of left) (tick_of right)) ≡ change_of (joined_ticks self.on self.take self.choice (tick_of left) (tick_of right))
    own_change =
        ap (λ (pick : Pick). change_of (matched_tick on pick take (tick_of left) (tick_of right))) of_pick
        ∙ ap change_of (ticks inside.choice on take (tick_of left) (tick_of right))
        ∙ ap₂ (λ (on : List OnPair) (take : List ℕ). change_of (joined_ticks on take inside.choice (tick_of left) (tick_of right))) of_on of_take
        ∙ ap (λ (joiner : Joiner). change_of (joined_ticks joiner.on joiner.take joiner.choice (tick_of left) (tick_of right))) view_is

    own_reads : (reads first : ℕ) → reads ≤ first + 4 * (left.new.width + right.new.width + (left.new.width + length take)) * (counted left.update + counted right.update + counted (change_of (matched_tick on pick take (tick_of left) (tick_of right))).update)
        → reads ≤ first + 4 * (left.new.width + right.new.width + (left.new.width + length self.take)) * (counted left.update + counted right.update + counted (change_of (joined_ticks self.on self.take self.choice (tick_of left) (tick_of right))).update)
    own_reads reads first h =
        step_within reads first left.new.width right.new.width (length take) (length self.take) (counted left.update + counted right.update)
        (change_of (matched_tick on pick take (tick_of left) (tick_of right))) (change_of (joined_ticks self.on self.take self.choice (tick_of left) (tick_of right)))
        h own_change (ap length of_take ∙ ap (λ (joiner : Joiner). length joiner.take) view_is)

pub lookup_step-requires-clause-few : goal.lookup_step-requires-clause-few
lookup_step-requires-clause-few g c =
    subst (λ (take : List ℕ). c.args.left.now.new.width + length take ≤ 32) (sym c.as_slice-2.ensures)
    (subst (λ (width : ℕ). width + length c.self.inside.take ≤ 32) (sym (c.requires.left_width ∙ ap (λ (joiner : Joiner). joiner.left_width) (sym c.self.view_is))) c.self.invariant.few)

pub lookup_step-requires-clause-take : goal.lookup_step-requires-clause-take
lookup_step-requires-clause-take g c =
    subst (λ (take : List ℕ). AllByRecursion (λ column. column < c.args.right.now.new.width) take) (sym c.as_slice-2.ensures)
    (subst (λ (width : ℕ). AllByRecursion (λ column. column < width) c.self.inside.take) (sym (c.requires.right_width ∙ ap (λ (joiner : Joiner). joiner.right_width) (sym c.self.view_is))) c.self.invariant.taken)

pub lookup_step-requires-clause-left_rows : goal.lookup_step-requires-clause-left_rows
lookup_step-requires-clause-left_rows g c =
    let stands = subst (λ (joiner : Joiner). Stands joiner c.args.left.now.old c.args.right.now.old) (sym c.self.view_is) c.requires.stands in
    stands.left_rows ∙ ap₂ (λ (on : List OnPair) (pick : Pick). indexed Left on pick c.args.left.now.old.rows) (sym c.as_slice.ensures) (sym c.of.ensures)

pub lookup_step-requires-clause-right_rows : goal.lookup_step-requires-clause-right_rows
lookup_step-requires-clause-right_rows g c =
    let stands = subst (λ (joiner : Joiner). Stands joiner c.args.left.now.old c.args.right.now.old) (sym c.self.view_is) c.requires.stands in
    stands.right_rows ∙ ap₂ (λ (on : List OnPair) (pick : Pick). indexed Right on pick c.args.right.now.old.rows) (sym c.as_slice.ensures) (sym c.of.ensures)

pub fault_now-requires : goal.fault_now-requires
fault_now-requires g c = came_members c.as_slice.result.now c.args.left.now c.requires.left_exact c.args.right.now c.requires.right_exact c.of.result _ _ c.in_ok-change.ensures.left_rows c.in_ok-change.ensures.came

pub returns-in-Some-clause-cause : goal.returns-in-Some-clause-cause
returns-in-Some-clause-cause g c =
    own_fault _ c.args.self c.self.view_is c.as_slice.result.now c.as_slice.ensures c.args.left.now.new c.args.right.now.new
    ∙ sym (told_is c.as_slice.result.now c.args.left.now c.requires.left_exact c.args.right.now c.requires.right_exact c.self.inside.choice c.of.result c.of.ensures _ _ _ _ c.in_ok-change.ensures.left_rows c.in_ok-change.ensures.right_rows c.in_ok-change.ensures.notes c.in_ok-change.ensures.came
    (sym (own_fault _ c.args.self c.self.view_is c.as_slice.result.now c.as_slice.ensures c.args.left.now.old c.args.right.now.old) ∙ c.requires.stands.sound))
    ∙ ap (option_map node_of) (sym c.in-Some.ensures)

pub returns-clause-stands : goal.returns-clause-stands
returns-clause-stands g c =
    ap₂ (λ (left : Grouped) (right : Grouped). let joiner : Joiner = record { on = c.self.inside.on; take = c.self.inside.take; choice = c.self.inside.choice; left_width = c.self.inside.left_width; right_width = c.self.inside.right_width; left = left; right = right } in joiner)
    (c.in_ok-change.ensures.left_rows ∙ ap₂ (λ (on : List OnPair) (pick : Pick). indexed Left on pick c.args.left.now.new.rows) c.as_slice.ensures c.of.ensures)
    (c.in_ok-change.ensures.right_rows ∙ ap₂ (λ (on : List OnPair) (pick : Pick). indexed Right on pick c.args.right.now.new.rows) c.as_slice.ensures c.of.ensures)
    ∙ ap (λ (joiner : Joiner). standing joiner c.args.left.now.new c.args.right.now.new) c.self.view_is

pub returns-clause-sound : goal.returns-clause-sound
returns-clause-sound g c =
    own_fault _ c.args.self c.self.view_is c.as_slice.result.now c.as_slice.ensures c.args.left.now.new c.args.right.now.new
    ∙ sym (told_is c.as_slice.result.now c.args.left.now c.requires.left_exact c.args.right.now c.requires.right_exact c.self.inside.choice c.of.result c.of.ensures _ _ _ _ c.in_ok-change.ensures.left_rows c.in_ok-change.ensures.right_rows c.in_ok-change.ensures.notes c.in_ok-change.ensures.came
    (sym (own_fault _ c.args.self c.self.view_is c.as_slice.result.now c.as_slice.ensures c.args.left.now.old c.args.right.now.old) ∙ c.requires.stands.sound))
    ∙ ap (option_map node_of) (sym c.in_default.ensures)

pub returns-clause-change : goal.returns-clause-change
returns-clause-change g c = c.in_ok-change.ensures.change ∙ own_change _ c.args.self c.self.view_is _ c.as_slice.ensures _ c.as_slice-2.ensures _ c.of.ensures c.args.left.now c.args.right.now

pub returns-in_err-change-clause-refused : goal.returns-in_err-change-clause-refused
returns-in_err-change-clause-refused g c = on_err c.from_residual.result (own_reads _ c.args.self c.self.view_is _ c.as_slice.ensures _ c.as_slice-2.ensures _ c.of.ensures c.args.left.now c.args.right.now c.lookup_step.new.reads c.args.reads.now c.lookup_step.ensures.reads)

pub returns-in-Some-clause-refused : goal.returns-in-Some-clause-refused
returns-in-Some-clause-refused g c = own_reads _ c.args.self c.self.view_is _ c.as_slice.ensures _ c.as_slice-2.ensures _ c.of.ensures c.args.left.now c.args.right.now c.lookup_step.new.reads c.args.reads.now c.lookup_step.ensures.reads

pub returns-clause-reads : goal.returns-clause-reads
returns-clause-reads g c =
    step_within c.lookup_step.new.reads c.args.reads.now c.args.left.now.new.width c.args.right.now.new.width (length c.as_slice-2.result.now) (length c.args.self.take) (counted c.args.left.now.update + counted c.args.right.now.update)
    (change_of (matched_tick c.as_slice.result.now c.of.result c.as_slice-2.result.now (tick_of c.args.left.now) (tick_of c.args.right.now))) _
    c.lookup_step.ensures.reads (sym c.in_ok-change.ensures.change) (ap length c.as_slice-2.ensures ∙ ap (λ (joiner : Joiner). length joiner.take) c.self.view_is)
