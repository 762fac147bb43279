use Rattle.std.proofs.Common.{◌≡◌, ◌≤◌, sym, ◌∙◌, min, w64, arith}
use Rattle.std.{proofs.lemmas.Bool.true≢false, proofs.lemmas.Int.to_z-of_z}
use Rattle.tick_model.specs.Shifts.{delta_at}
use Rattle.shift_data.{proofs.InPlace.zero_bits, proofs.Onward.{first_inside, move_ahead, no_first}, proofs.Segments.fits_delta, proofs.in_place.move_from.Goals.{then-segment-eq0, else-segment-eq0}}
use Rattle.shift_data.proofs.in_place.move_from.Goals as goal

pub returns-in_err-run-clause-none : goal.returns-in_err-run-clause-none
returns-in_err-run-clause-none c = rw c.from_residual.ensures (no_first c.args.runs.now c.in_err-run.ensures.value)

pub segment_at-segment-requires-clause-key : goal.segment_at-segment-requires-clause-key
segment_at-segment-requires-clause-key c =
    omega (arith, c.max-first.ensures, (first_inside c.args.runs.now c.args.from c.in_ok-run.field-0.now c.requires.ahead c.in_ok-run.ensures.value).0)

pub returns-clause-part : goal.returns-clause-part
returns-clause-part c =
    let run = c.in_ok-run.field-0.now in
    let first = c.max-first.result in
    let s = c.segment_at-segment in
    let delta = s.result.delta in
    let fits = fits_delta delta s.ensures.up s.ensures.down in
    let begins : first ≤ run.last = omega (arith, c.max-first.ensures, (first_inside c.args.runs.now c.args.from run c.requires.ahead c.in_ok-run.ensures.value).1) in
    rw (to_z-of_z w64 delta fits)
    (elim c.if-segment-eq0.branch [
      | then-segment-eq0 w ↦
          let last : c.if-segment-eq0.last ≡ s.result.last = w.last-is in
          move_ahead (delta_at c.args.shifts.now) c.args.runs.now c.args.from first run s.result c.if-segment-eq0.last c.requires.ahead c.in_ok-run.ensures.value c.max-first.ensures s.ensures.segment (omega (arith, last, s.ensures.segment.order)) (omega (arith, last))
          (λ moves. absurd (true≢false (sym (zero_bits delta fits w.if-segment-eq0.true) ∙ moves)))
      | else-segment-eq0 w ↦
          let last : c.if-segment-eq0.last ≡ min s.result.last run.last = w.last-is ∙ w.min-last.ensures in
          move_ahead (delta_at c.args.shifts.now) c.args.runs.now c.args.from first run s.result c.if-segment-eq0.last c.requires.ahead c.in_ok-run.ensures.value c.max-first.ensures s.ensures.segment (omega (arith, last, s.ensures.segment.order, begins)) (omega (arith, last))
          (λ moves. omega (arith, last))
    ])
