use Rattle.std.proofs.Common.{◌≡◌, [], ◌∷◌, arith, ◌<◌, ◌^◌, ◌∙◌, w64, SFits, to_z-of_z, rules}
use Rattle.std.specs.Fmt.{decimal, signed_decimal}
use Rattle.update_text.{proofs.ChangesBack.delta_bounded, proofs.ReadChanges.same_range, proofs.ReadRows.gives_memory}
use Rattle.update_text.proofs.read_changes.read_shift.Goals as goal

pub returns-in_err-begin-clause-told : goal.returns-in_err-begin-clause-told
returns-in_err-begin-clause-told c range rest fits e =
    gives_memory c.from_residual.result _ c.in_err-begin.field-0.0 c.from_residual.ensures.1
    (c.in_err-begin.ensures.told range.begin (decimal range.end ∷ signed_decimal range.delta ∷ []) rest (omega (arith, fits.begin)) e)

pub returns-in_err-end-clause-told : goal.returns-in_err-end-clause-told
returns-in_err-end-clause-told c range rest fits e =
    let one = c.in_ok-begin.ensures.told range.begin (decimal range.end ∷ signed_decimal range.delta ∷ []) rest (omega (arith, fits.begin)) e in
    gives_memory c.from_residual-in_err-end.result _ c.in_err-end.field-0.0 c.from_residual-in_err-end.ensures.1
    (c.in_err-end.ensures.told range.end (signed_decimal range.delta ∷ []) rest (omega (arith, fits.end)) one.1)

pub returns-in_err-delta-clause-told : goal.returns-in_err-delta-clause-told
returns-in_err-delta-clause-told c range rest fits e =
    let one = c.in_ok-begin.ensures.told range.begin (decimal range.end ∷ signed_decimal range.delta ∷ []) rest (omega (arith, fits.begin)) e in
    let two = c.in_ok-end.ensures.told range.end (signed_decimal range.delta ∷ []) rest (omega (arith, fits.end)) one.1 in
    gives_memory c.from_residual-in_err-delta.result _ c.in_err-delta.field-0.0 c.from_residual-in_err-delta.ensures.1
    (c.in_err-delta.ensures.told range.delta [] rest (record { sfits = delta_bounded range.delta fits.up fits.down }) two.1)

pub returns-in_err-rest-clause-told : goal.returns-in_err-rest-clause-told
returns-in_err-rest-clause-told c range rest fits e =
    let one = c.in_ok-begin.ensures.told range.begin (decimal range.end ∷ signed_decimal range.delta ∷ []) rest (omega (arith, fits.begin)) e in
    let two = c.in_ok-end.ensures.told range.end (signed_decimal range.delta ∷ []) rest (omega (arith, fits.end)) one.1 in
    let three = c.in_ok-delta.ensures.told range.delta [] rest (record { sfits = delta_bounded range.delta fits.up fits.down }) two.1 in
    gives_memory c.from_residual-in_err-rest.result _ c.in_err-rest.field-0.0 c.from_residual-in_err-rest.ensures.1 (c.in_err-rest.ensures.told rest three.1)

pub returns-clause-told : goal.returns-clause-told
returns-clause-told c range rest fits e =
    let one = c.in_ok-begin.ensures.told range.begin (decimal range.end ∷ signed_decimal range.delta ∷ []) rest (omega (arith, fits.begin)) e in
    let two = c.in_ok-end.ensures.told range.end (signed_decimal range.delta ∷ []) rest (omega (arith, fits.end)) one.1 in
    let three = c.in_ok-delta.ensures.told range.delta [] rest (record { sfits = delta_bounded range.delta fits.up fits.down }) two.1 in
    let own : SFits w64 c.in_ok-delta.delta = search rules in
    (same_range c.in_ok-begin.begin c.in_ok-end.end _ range one.0 two.0 (to_z-of_z own ∙ three.0), c.in_ok-rest.ensures.told rest three.1)
