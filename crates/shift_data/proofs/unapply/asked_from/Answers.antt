use Rattle.std.proofs.Common.{◌≡◌, sym, ◌∙◌, arith, leb, w64, Some, inl, inr, ℕ, ◌≤◌, Bool, true, false}
use Rattle.key_lists.specs.Keys.{is_among, without}
use Rattle.row_set.specs.Ranges.{holds, ranges_of}
use Rattle.std.{specs.Prelude.find, proofs.lemmas.Bool.{cases_lt, true≢false}, proofs.lemmas.Int.to_z-of_z}
use Rattle.shift_data.{proofs.Applied.landing_is, proofs.Asked.{lands_inside, part_not_asked, part_asked, run_of, no_run}, proofs.Keys.{find_none, find_key}, proofs.Kept.{kept_is_key, kept_set, run_kept}, proofs.Segments.{key_small, fits_delta}}
use Rattle.shift_data.proofs.unapply.asked_from.Goals as goal

pub returns-in_err-first-clause-none : goal.returns-in_err-first-clause-none
returns-in_err-first-clause-none c =
    rw c.from_residual.ensures (find_none (leb c.args.from) (without c.args.left_out.now c.args.keys.now) (sym c.next_kept.ensures.key ∙ c.in_err-first.was))

pub segment_at-segment-requires-clause-key : goal.segment_at-segment-requires-clause-key
segment_at-segment-requires-clause-key c =
    key_small c.in_ok-first.first (without c.args.left_out.now c.args.keys.now) (kept_set c.args.left_out.now c.args.keys.now c.next_kept.ensures.keys) (find_key (leb c.args.from) (without c.args.left_out.now c.args.keys.now) c.in_ok-first.first (sym c.next_kept.ensures.key ∙ c.in_ok-first.was)).0

pub landing-place-requires-clause-inside : goal.landing-place-requires-clause-inside
landing-place-requires-clause-inside c =
    let s = c.segment_at-segment in
    rw (to_z-of_z w64 s.result.delta (fits_delta s.result.delta s.ensures.up s.ensures.down))
    (lands_inside c.args.shifts.now (without c.args.left_out.now c.args.keys.now) c.in_ok-first.first s.result.delta c.requires.lawful (find_key (leb c.args.from) (without c.args.left_out.now c.args.keys.now) c.in_ok-first.first (sym c.next_kept.ensures.key ∙ c.in_ok-first.was)).0 (s.ensures.segment.same c.in_ok-first.first (omega arith) s.ensures.segment.order))

pub returns-then-ahead-gt0-clause-part : goal.returns-then-ahead-gt0-clause-part
returns-then-ahead-gt0-clause-part c =
    let first = c.in_ok-first.first in
    let s = c.segment_at-segment in
    let delta = s.result.delta in
    let e : find (leb c.args.from) (without c.args.left_out.now c.args.keys.now) ≡ Some first = sym c.next_kept.ensures.key ∙ c.in_ok-first.was in
    let inside = lands_inside c.args.shifts.now (without c.args.left_out.now c.args.keys.now) first delta c.requires.lawful (find_key (leb c.args.from) (without c.args.left_out.now c.args.keys.now) first e).0 (s.ensures.segment.same first (omega arith) s.ensures.segment.order) in
    let at = landing_is first delta c.landing-place.result (fits_delta delta s.ensures.up s.ensures.down) inside c.landing-place.ensures.key in
    part_not_asked c.args.shifts.now (without c.args.left_out.now c.args.keys.now) c.args.after.now c.args.from first s.result c.landing-place.result (kept_set c.args.left_out.now c.args.keys.now c.next_kept.ensures.keys) e s.ensures.segment at
    c.gap_from-ahead.result c.min.result c.if-ahead-gt0.true (omega arith) (omega arith) (omega (arith, s.ensures.segment.order, s.ensures.segment.small)) c.gap_from-ahead.ensures.gap

pub returns-in_err-run-clause-none : goal.returns-in_err-run-clause-none
returns-in_err-run-clause-none c =
    let first = c.in_ok-first.first in
    let e : find (leb c.args.from) (without c.args.left_out.now c.args.keys.now) ≡ Some first = sym c.next_kept.ensures.key ∙ c.in_ok-first.was in
    let here = kept_is_key c.args.left_out.now c.args.keys.now first (find_key (leb c.args.from) (without c.args.left_out.now c.args.keys.now) first e).0 in
    absurd (true≢false (sym here.1 ∙ no_run c.args.keys.now first (sym c.range_at.ensures.range ∙ c.in_err-run.was)))

-- a number that is no key has a gap from it on
some_free : (n : ℕ) (b : Bool) → (n ≡ 0 → b ≡ true) → b ≡ false → 1 ≤ n
some_free n b none free =
    elim (cases_lt n 1) [
      | inl less ↦ absurd (true≢false (sym (none (omega arith)) ∙ free))
      | inr some ↦ some
    ]

pub overflow_sub-free : goal.overflow_sub-free
overflow_sub-free c =
    let first = c.in_ok-first.first in
    let e : find (leb c.args.from) (without c.args.left_out.now c.args.keys.now) ≡ Some first = sym c.next_kept.ensures.key ∙ c.in_ok-first.was in
    some_free c.gap_from-free.result (is_among first c.args.left_out.now) c.gap_from-free.ensures.none (kept_is_key c.args.left_out.now c.args.keys.now first (find_key (leb c.args.from) (without c.args.left_out.now c.args.keys.now) first e).0).0

pub returns-in_err-asked-clause-none : goal.returns-in_err-asked-clause-none
returns-in_err-asked-clause-none c =
    absurd (true≢false (sym (c.gap_from-ahead.ensures.none (omega arith)) ∙ no_run c.args.after.now c.landing-place.result (sym c.range_at-2.ensures.range ∙ c.in_err-asked.was)))

pub overflow_sub-asked : goal.overflow_sub-asked
overflow_sub-asked c = (run_of c.args.after.now c.landing-place.result c.in_ok-asked.asked (sym c.range_at-2.ensures.range ∙ c.in_ok-asked.was)).1

pub overflow_add-first : goal.overflow_add-first
overflow_add-first c =
    let first = c.in_ok-first.first in
    let asked = c.in_ok-asked.asked in
    let e : find (leb c.args.from) (without c.args.left_out.now c.args.keys.now) ≡ Some first = sym c.next_kept.ensures.key ∙ c.in_ok-first.was in
    let there = run_of c.args.after.now c.landing-place.result asked (sym c.range_at-2.ensures.range ∙ c.in_ok-asked.was) in
    let low = key_small first (without c.args.left_out.now c.args.keys.now) (kept_set c.args.left_out.now c.args.keys.now c.next_kept.ensures.keys) (find_key (leb c.args.from) (without c.args.left_out.now c.args.keys.now) first e).0 in
    let high = key_small asked.last c.args.after.now c.gap_from-ahead.ensures.keys (there.2 asked.last (omega (arith, there.0, there.1)) (omega arith)) in
    record { fits = omega (arith, low, high) }

pub returns-clause-part : goal.returns-clause-part
returns-clause-part c =
    let first = c.in_ok-first.first in
    let s = c.segment_at-segment in
    let delta = s.result.delta in
    let e : find (leb c.args.from) (without c.args.left_out.now c.args.keys.now) ≡ Some first = sym c.next_kept.ensures.key ∙ c.in_ok-first.was in
    let inside = lands_inside c.args.shifts.now (without c.args.left_out.now c.args.keys.now) first delta c.requires.lawful (find_key (leb c.args.from) (without c.args.left_out.now c.args.keys.now) first e).0 (s.ensures.segment.same first (omega arith) s.ensures.segment.order) in
    let at = landing_is first delta c.landing-place.result (fits_delta delta s.ensures.up s.ensures.down) inside c.landing-place.ensures.key in
    let held : find (holds first) (ranges_of c.args.keys.now) ≡ Some c.in_ok-run.run' = sym c.range_at.ensures.range ∙ c.in_ok-run.was in
    let wanted : find (holds c.landing-place.result) (ranges_of c.args.after.now) ≡ Some c.in_ok-asked.asked = sym c.range_at-2.ensures.range ∙ c.in_ok-asked.was in
    let here = run_of c.args.keys.now first c.in_ok-run.run' held in
    let free = some_free c.gap_from-free.result (is_among first c.args.left_out.now) c.gap_from-free.ensures.none (kept_is_key c.args.left_out.now c.args.keys.now first (find_key (leb c.args.from) (without c.args.left_out.now c.args.keys.now) first e).0).0 in
    part_asked c.args.shifts.now (without c.args.left_out.now c.args.keys.now) c.args.after.now c.args.from first s.result c.landing-place.result (kept_set c.args.left_out.now c.args.keys.now c.next_kept.ensures.keys) e s.ensures.segment at
    c.in_ok-asked.asked c.min-3.result
    (λ key above below. run_kept c.args.left_out.now c.args.keys.now key (here.2 key (omega (arith, here.0)) (omega arith)) (c.gap_from-free.ensures.gap key above (omega (arith, free, below))))
    wanted (omega arith) (omega arith) (omega (arith, s.ensures.segment.order, here.1, free))
