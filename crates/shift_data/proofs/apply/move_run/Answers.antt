use Rattle.std.proofs.Common.{arith, ◌++◌, w64, ◌≤◌}
use Rattle.std.proofs.lemmas.Int.{to_z-of_z}
use Rattle.tick_model.specs.Rules.{landed}
use Rattle.row_set.specs.Ranges.{keys_in}
use Rattle.shift_data.{proofs.Applied.{key_inside, landing_is, run_step}, proofs.Segments.fits_delta}
use Rattle.shift_data.proofs.apply.move_run.Goals as goal

pub landing-first_place-requires-clause-inside : goal.landing-first_place-requires-clause-inside
landing-first_place-requires-clause-inside c =
    let s = c.segment_at-segment in
    rw (to_z-of_z w64 s.result.delta (fits_delta s.result.delta s.ensures.up s.ensures.down))
    (key_inside c.args.shifts.now c.args.run c.loop-from.from s.result.delta c.requires.inside c.loop-from.invariant.0 c.loop-from-test.true (s.ensures.segment.same c.loop-from.from (omega arith) s.ensures.segment.order))

pub landing-last_place-requires-clause-inside : goal.landing-last_place-requires-clause-inside
landing-last_place-requires-clause-inside c =
    let s = c.segment_at-segment in
    let order : c.loop-from.from ≤ c.min-last.result = omega (arith, s.ensures.segment.order) in
    rw (to_z-of_z w64 s.result.delta (fits_delta s.result.delta s.ensures.up s.ensures.down))
    (key_inside c.args.shifts.now c.args.run c.min-last.result s.result.delta c.requires.inside (omega arith) (omega arith) (s.ensures.segment.same c.min-last.result order (omega arith)))

pub loop-from-preserved : goal.loop-from-preserved
loop-from-preserved c =
    let s = c.segment_at-segment in
    let delta = s.result.delta in
    let order : c.loop-from.from ≤ c.min-last.result = omega (arith, s.ensures.segment.order) in
    let fits = fits_delta delta s.ensures.up s.ensures.down in (
      omega (arith, c.loop-from.invariant.0),
      omega arith,
      rw c.in_ok-insert_range.ensures.ok
          (run_step c.args.shifts.now delta c.loop-from.from c.min-last.result c.args.run.last c.landing-first_place.result c.landing-last_place.result c.loop-from.places (c.args.places.now ++ landed c.args.shifts.now (keys_in c.args.run))
          order (omega arith)
          (λ key above below. s.ensures.segment.same key above (omega arith))
          (landing_is c.loop-from.from delta c.landing-first_place.result fits (key_inside c.args.shifts.now c.args.run c.loop-from.from delta c.requires.inside c.loop-from.invariant.0 c.loop-from-test.true (s.ensures.segment.same c.loop-from.from (omega arith) s.ensures.segment.order)) c.landing-first_place.ensures.key)
          (landing_is c.min-last.result delta c.landing-last_place.result fits (key_inside c.args.shifts.now c.args.run c.min-last.result delta c.requires.inside (omega arith) (omega arith) (s.ensures.segment.same c.min-last.result order (omega arith))) c.landing-last_place.ensures.key)
          c.requires.rising
          c.loop-from.invariant.2),
    )
