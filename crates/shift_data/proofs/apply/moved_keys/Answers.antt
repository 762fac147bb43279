use Rattle.std.proofs.Common.{◌≡◌, ap₂, sym, ◌∙◌, get_or, subst, take, ◌++◌}
use Rattle.std.proofs.lemmas.List.{get_or_default}
use Rattle.key_lists.specs.Keys.{IsRising}
use Rattle.row_set.{specs.declared.ranges.Range.Range, specs.Ranges.{keys_in, keys_of}}
use Rattle.tick_model.specs.Rules.{landed}
use Rattle.shift_data.{proofs.Applied.{landed_taken, range_of_set, run_inside, run_rises}, proofs.Followed.{inside_here, landed_here, left_next}}
use Rattle.shift_data.proofs.apply.moved_keys.Goals as goal

pub move_run-requires-clause-order : goal.move_run-requires-clause-order
move_run-requires-clause-order c =
    let runs = c.ranges-runs.result.now in
    let i = c.loop-run.run-index in
    let run : Range = get_or runs i (record { first = 0; last = 0 }) in
    (range_of_set runs i run c.ranges-runs.ensures.apart c.loop-run-test.true (get_or_default runs i (record { first = 0; last = 0 }) run c.loop-run-test.true)).ascends

pub move_run-requires-clause-small : goal.move_run-requires-clause-small
move_run-requires-clause-small c =
    let runs = c.ranges-runs.result.now in
    let i = c.loop-run.run-index in
    let run : Range = get_or runs i (record { first = 0; last = 0 }) in
    (range_of_set runs i run c.ranges-runs.ensures.apart c.loop-run-test.true (get_or_default runs i (record { first = 0; last = 0 }) run c.loop-run-test.true)).small

pub move_run-requires-clause-inside : goal.move_run-requires-clause-inside
move_run-requires-clause-inside c =
    let runs = c.ranges-runs.result.now in
    let i = c.loop-run.run-index in
    let run : Range = get_or runs i (record { first = 0; last = 0 }) in
    let is : run ≡ get_or runs i run = get_or_default runs i (record { first = 0; last = 0 }) run c.loop-run-test.true in
    inside_here c.args.shifts.now runs i c.loop-run.ranges.now c.shifts_from-ranges.result.now run c.ranges-runs.ensures.apart c.loop-run-test.true is c.loop-run.invariant.1 c.shifts_from-ranges.ensures.same
    (run_inside c.args.shifts.now c.args.keys.now runs i run c.requires.lawful c.ranges-runs.ensures.held c.loop-run-test.true is)

pub move_run-requires-clause-rising : goal.move_run-requires-clause-rising
move_run-requires-clause-rising c =
    let runs = c.ranges-runs.result.now in
    let i = c.loop-run.run-index in
    let run : Range = get_or runs i (record { first = 0; last = 0 }) in
    let is : run ≡ get_or runs i run = get_or_default runs i (record { first = 0; last = 0 }) run c.loop-run-test.true in
    let same : landed c.shifts_from-ranges.result.now (keys_in run) ≡ landed c.args.shifts.now (keys_in run) =
    landed_here c.args.shifts.now runs i c.loop-run.ranges.now c.shifts_from-ranges.result.now run c.ranges-runs.ensures.apart c.loop-run-test.true is c.loop-run.invariant.1 c.shifts_from-ranges.ensures.same in
    subst (λ places. IsRising (places ++ landed c.shifts_from-ranges.result.now (keys_in run))) (sym c.loop-run.invariant.0)
    (subst (λ those. IsRising (landed c.args.shifts.now (keys_of (take i runs)) ++ those)) (sym same)
    (run_rises c.args.shifts.now c.args.keys.now runs i run c.requires.lawful c.ranges-runs.ensures.held c.loop-run-test.true is))

pub loop-run-preserved : goal.loop-run-preserved
loop-run-preserved c =
    let runs = c.ranges-runs.result.now in
    let i = c.loop-run.run-index in
    let run : Range = get_or runs i (record { first = 0; last = 0 }) in
    let is : run ≡ get_or runs i run = get_or_default runs i (record { first = 0; last = 0 }) run c.loop-run-test.true in
    let same : landed c.shifts_from-ranges.result.now (keys_in run) ≡ landed c.args.shifts.now (keys_in run) =
    landed_here c.args.shifts.now runs i c.loop-run.ranges.now c.shifts_from-ranges.result.now run c.ranges-runs.ensures.apart c.loop-run-test.true is c.loop-run.invariant.1 c.shifts_from-ranges.ensures.same in (
      c.in_ok-move_run.ensures ∙ ap₂ ◌++◌ c.loop-run.invariant.0 same ∙ landed_taken c.args.shifts.now runs i run c.loop-run-test.true is,
      left_next c.args.shifts.now runs i c.loop-run.ranges.now c.shifts_from-ranges.result.now run c.ranges-runs.ensures.apart c.loop-run-test.true is c.loop-run.invariant.1 c.shifts_from-ranges.ensures.same c.shifts_from-ranges.ensures.list (range_of_set runs i run c.ranges-runs.ensures.apart c.loop-run-test.true is).ascends,
    )
