use Rattle.std.proofs.Common.{arith, w64, ◌+ℤ◌, subst}
use Rattle.std.{specs.Prelude.IfSome, proofs.lemmas.Int.to_z-of_z}
use Rattle.shift_data.{specs.Parts.IsLastUpTo, proofs.Applied.landing_is, proofs.Asked.lands_inside, proofs.Segments.fits_delta, proofs.Through.{fits_sum, part_further}}
use Rattle.shift_data.proofs.parts.part_through.Goals as goal

pub landing-place-requires-clause-inside : goal.landing-place-requires-clause-inside
landing-place-requires-clause-inside c =
    let part = c.in_ok-part.part in
    let is = c.in_ok-part.ensures.part in
    rw (to_z-of_z w64 part.delta (fits_delta part.delta c.in_ok-part.ensures.up c.in_ok-part.ensures.down))
    (lands_inside c.args.shifts.now c.args.keys.now part.first part.delta c.requires.lawful is.first (is.same part.first (omega arith) is.order))

pub returns-clause-part : goal.returns-clause-part
returns-clause-part c =
    let part = c.in_ok-part.part in
    let is = c.in_ok-part.ensures.part in
    let further = c.segment_at-further in
    let inside = lands_inside c.args.shifts.now c.args.keys.now part.first part.delta c.requires.lawful is.first (is.same part.first (omega arith) is.order) in
    let at = landing_is part.first part.delta c.landing-place.result (fits_delta part.delta c.in_ok-part.ensures.up c.in_ok-part.ensures.down) inside c.landing-place.ensures.key in
    rw (
      to_z-of_z w64 part.delta (fits_delta part.delta c.in_ok-part.ensures.up c.in_ok-part.ensures.down),
      to_z-of_z w64 further.result.delta (fits_delta further.result.delta further.ensures.up further.ensures.down),
      to_z-of_z w64 (part.delta +ℤ further.result.delta) (fits_sum part.delta further.result.delta c.in_ok-part.ensures.up c.in_ok-part.ensures.down further.ensures.up further.ensures.down),
    )
    (part_further c.args.shifts.now c.args.next.now c.args.keys.now c.args.from part c.landing-place.result further.result c.part_from.ensures.keys is at further.ensures.segment
    c.last_up_to.result c.unwrap_or-last.result (subst (λ high. IfSome c.last_up_to.result (IsLastUpTo c.args.keys.now high)) c.min-high.ensures c.last_up_to.ensures.last) c.unwrap_or-last.ensures)
