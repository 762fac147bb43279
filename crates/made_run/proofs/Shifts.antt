-- Rows that all move up by the same: no rule is broken, and where they land.
use Rattle.std.proofs.Common.{◌≡◌, refl, ap, ap₂, sym, ◌∙◌, ℕ, zero, suc, ◌+◌, ◌-◌, ◌<◌, ◌≤◌, arith, Bool, true, false, cond, ◌&&◌, List, [], ◌∷◌, map, Option, Some, None, ℤ, pos, negsuc, ◌+ℤ◌, leb, ltb, unwrap_or}
use Rattle.std.{specs.Prelude.{int_le, option_map}, specs.List.range_with_len, proofs.lemmas.Bool.{and_from, or_from, le-leb, lt-leb, le-ltb}, proofs.lemmas.Int.ints}
use Rattle.tick_model.{specs.declared.update.ShiftRange.ShiftRange, specs.declared.update.UpdateFault.UpdateFault, specs.declared.update.UpdateFault.TheVariants.ShiftBreaks, specs.Rules.{is_past, landed, shift_fault, shift_fault_after}, specs.Shifts.{as_key, holds, moved}}

module _ (limit : ℕ) (shifts : List ShiftRange) (up low high : ℕ) (fits : up ≤ low) (room : high ≤ limit) (moves : (k : ℕ) → low ≤ k → k < high → moved shifts k ≡ pos (k - up)) where
  not_past : (k : ℕ) → low ≤ k → k < high → is_past limit (moved shifts k) ≡ false
  not_past k least most =
      let below : k - up < limit = omega (arith, most, room) in
      ap (is_past limit) (moves k least most) ∙ or_from (ltb (k - up) 0) (leb limit (k - up)) (le-ltb (k - up) 0 (omega arith)) (lt-leb limit (k - up) below)

  in_order : (j k : ℕ) → low ≤ j → j < k → k < high → int_le (moved shifts k) (moved shifts j) ≡ false
  in_order j k least less most =
      let above : j - up < k - up = omega (arith, fits, least, less) in
      ap₂ int_le (moves k (omega (arith, least, less)) most) (moves j least (omega (arith, less, most))) ∙ lt-leb (k - up) (j - up) above

  no_fault_after : (before first count : ℕ) → low ≤ before → before < first → first + count ≤ high → shift_fault_after limit shifts (Some before) (range_with_len first count) ≡ None
  no_fault_after before first zero least less most = refl
  no_fault_after before first (suc count) least less most =
      ap (λ b. cond b (Some (ShiftBreaks first first)) (cond (int_le (moved shifts first) (moved shifts before)) (Some (ShiftBreaks before first)) rest)) (not_past first (omega (arith, least, less)) (omega (arith, most)))
      ∙ ap (λ b. cond b (Some (ShiftBreaks before first)) rest) (in_order before first least less (omega (arith, most)))
      ∙ no_fault_after first (first + 1) count (omega (arith, least, less)) (omega arith) (omega (arith, most))
    where
      rest : Option UpdateFault
      rest = shift_fault_after limit shifts (Some first) (range_with_len (first + 1) count)

  pub no_shift_fault : (first count : ℕ) → low ≤ first → first + count ≤ high → shift_fault limit shifts (range_with_len first count) ≡ None
  no_shift_fault first zero least most = refl
  no_shift_fault first (suc count) least most =
      ap (λ b. cond b (Some (ShiftBreaks first first)) (shift_fault_after limit shifts (Some first) (range_with_len (first + 1) count))) (not_past first least (omega (arith, most)))
      ∙ no_fault_after first (first + 1) count least (omega arith) (omega (arith, most))

  pub landed_row : (first count : ℕ) → low ≤ first → first + count ≤ high → landed shifts (range_with_len first count) ≡ range_with_len (first - up) count
  landed_row first zero least most = refl
  landed_row first (suc count) least most =
      let next : first + 1 - up ≡ first - up + 1 = omega (arith, fits, least) in
      ap (λ place. as_key place ∷ landed shifts (range_with_len (first + 1) count)) (moves first least (omega (arith, most)))
      ∙ ap (λ rest. (first - up) ∷ rest) (landed_row (first + 1) count (omega (arith, least)) (omega (arith, most)) ∙ ap (λ k. range_with_len k count) next)

-- where nothing moves, and where the rows from the tenth on move up by ten
pub unmoved : (k : ℕ) → moved [] k ≡ pos (k - 0)
unmoved k = omega (arith, ints)

abbrev pub up_by_ten : ℕ → List ShiftRange
up_by_ten rows = (record { begin = 10; end = rows - 1; delta = negsuc 9 }) ∷ []

pub moved_up : (rows k : ℕ) → 10 ≤ k → k < rows → moved (up_by_ten rows) k ≡ pos (k - 10)
moved_up rows k least most =
    ap (λ b. pos k +ℤ unwrap_or (option_map (λ (range : ShiftRange). range.delta) (cond b (Some (range_at rows)) None)) (pos 0)) held
    ∙ ten_less k least
  where
    range_at : ℕ → ShiftRange
    range_at rows = record { begin = 10; end = rows - 1; delta = negsuc 9 }

    held : holds (record { begin = 10; end = rows - 1; delta = negsuc 9 }) k ≡ true
    held = and_from (leb 10 k) (leb k (rows - 1)) (le-leb 10 k least) (le-leb k (rows - 1) (omega (arith, most)))

    ten_less : (k : ℕ) → 10 ≤ k → (pos k +ℤ negsuc 9) ≡ pos (k - 10)
    ten_less k least = omega (arith, ints, least)
