-- The ranges of rising pairs of keys are those of a shift.
use Rattle.std.proofs.Common.{◌≡◌, refl, true, false, cond, ℕ, suc, ◌-◌, ◌^◌, ◌<◌, ◌≤◌, arith, List, [], ◌∷◌, map, pos, negsuc, ◌-ℤ◌}
use Rattle.std.{specs.Prelude.{filter, ◌<ℤ◌}, specs.List.AllByRecursion, specs.Ordering.int_eq, proofs.lemmas.Bool.not-true, proofs.lemmas.Int.ints}
use Rattle.key_lists.{specs.Keys.IsRising, proofs.Every.{every, every_weaker, every-filter}}
use Rattle.tick_model.{specs.declared.update.ShiftRange.ShiftRange, specs.declared.update.KeyPair.KeyPair, specs.Printable.{IsShift, IsShiftRange}, specs.Shifts.{delta, one, extend, stretches, shifted}}
use Rattle.tick_laws.proofs.Moves.{IsApart, stretches_apart}
use Rattle.shift_data.{specs.ShiftLists.IsShiftList, specs.Stretches.is_moving}

-- those that move ascend and are disjoint
each_past : (low : ℕ) (ranges : List ShiftRange) → IsApart (suc low) ranges → AllByRecursion (λ next. low < next.begin) ranges
each_past low [] h = tt
each_past low (range ∷ ranges) h =
    (omega (arith, h.0), every_weaker (λ (next : ShiftRange). range.end < next.begin) (λ next. low < next.begin) ranges (λ next more. omega (arith, more, h.0, h.1)) (each_past range.end ranges h.2))

apart_moving : (low : ℕ) (ranges : List ShiftRange) → IsApart low ranges → IsShift (filter is_moving ranges)
apart_moving low [] h = tt
apart_moving low (range ∷ ranges) h =
    (elim (is_moving range) as (λ b. is_moving range ≡ b → IsShift (cond b (range ∷ filter is_moving ranges) (filter is_moving ranges))) [
      | true ↦ λ e. (h.1, not-true (int_eq range.delta (pos 0)) e, every-filter (λ (next : ShiftRange). range.end < next.begin) is_moving ranges (each_past range.end ranges h.2), apart_moving (suc range.end) ranges h.2)
      | false ↦ λ e. apart_moving (suc range.end) ranges h.2
    ]) refl

-- their ends are keys, and they move by less than there are keys
abbrev pub IsSmall : KeyPair → Type 0
IsSmall pair = (pair.old < 2 ^ 62) × (pair.new < 2 ^ 62)

one_small : (pair : KeyPair) → IsSmall pair → IsShiftRange (2 ^ 62) (one pair)
one_small pair h = record { begin = h.0; end = h.0; up = upper pair.old pair.new h.1; down = lower pair.old pair.new h.0 }
  where
    upper : (old new : ℕ) → new < 2 ^ 62 → (pos new -ℤ pos old) <ℤ pos (2 ^ 62)
    upper old new less = omega (arith, ints)

    lower : (old new : ℕ) → old < 2 ^ 62 → negsuc (2 ^ 62 - 1) <ℤ (pos new -ℤ pos old)
    lower old new less = omega (arith, ints)

extend_small : (pair : KeyPair) (ranges : List ShiftRange) → IsSmall pair → AllByRecursion (IsShiftRange (2 ^ 62)) ranges → AllByRecursion (IsShiftRange (2 ^ 62)) (extend pair ranges)
extend_small pair [] s h = (one_small pair s, tt)
extend_small pair (range ∷ ranges) s h =
    elim (int_eq (delta pair) range.delta) as (λ b. AllByRecursion (IsShiftRange (2 ^ 62)) (cond b ((record range { begin = pair.old }) ∷ ranges) (one pair ∷ range ∷ ranges))) [
      | true ↦ (record { begin = s.0; end = h.0.end; up = h.0.up; down = h.0.down }, h.1)
      | false ↦ (one_small pair s, h)
    ]

stretches_small : (pairs : List KeyPair) → AllByRecursion IsSmall pairs → AllByRecursion (IsShiftRange (2 ^ 62)) (stretches pairs)
stretches_small [] h = tt
stretches_small (pair ∷ pairs) h = extend_small pair (stretches pairs) h.0 (stretches_small pairs h.1)

pub shift_of : (pairs : List KeyPair) → IsRising (map (λ pair. pair.old) pairs) → AllByRecursion IsSmall pairs → IsShiftList (shifted pairs)
shift_of pairs rising small = record {
  apart = apart_moving 0 (stretches pairs) (stretches_apart 0 pairs (every (λ key. 0 ≤ key) (map (λ (pair : KeyPair). pair.old) pairs) (λ key. omega arith)) rising);
  small = every-filter (IsShiftRange (2 ^ 62)) is_moving (stretches pairs) (stretches_small pairs small);
}
