-- Keys that move.
use Rattle.std.proofs.Common.{◌≡◌, ap, sym, ◌∙◌, subst, false, ℕ, ◌<◌, ◌≤◌, ◌^◌, arith, List, length, Option, None, inl, inr, pos, ◌+ℤ◌, take_all}
use Rattle.std.{specs.Prelude.{find, option_map, unwrap_or}, specs.List.AllByRecursion, proofs.lemmas.Bool.cases_lt, proofs.lemmas.Int.ints}
use Rattle.key_lists.proofs.Every.{every_weaker}
use Rattle.tick_model.{specs.declared.update.ShiftRange.ShiftRange, specs.Printable.IsShiftRange, specs.Rules.is_past, specs.Shifts.{holds, moved}}
use Rattle.shift_data.{specs.ShiftLists.IsShiftList, proofs.Lawful.not_past, proofs.Searches.found_none}

-- what moves to a key is a key
pub key_small : (shifts : List ShiftRange) (key : ℕ) → IsShiftList shifts → is_past (2 ^ 62) (moved shifts key) ≡ false → key < 2 ^ 62
key_small shifts key is inside =
    elim (cases_lt key (2 ^ 62)) [
      | inl less ↦ less
      | inr more ↦ (not_past (2 ^ 62) (pos key) (sym (ap (is_past (2 ^ 62)) (stays more)) ∙ inside)).1
    ]
  where
    none_holds : 2 ^ 62 ≤ key → None ≡ find (λ range. holds range key) shifts
    none_holds more =
        found_none key shifts (length shifts)
        (subst (AllByRecursion (λ (range : ShiftRange). range.end < key)) (sym (take_all (length shifts) shifts (omega arith))) (every_weaker (IsShiftRange (2 ^ 62)) (λ (range : ShiftRange). range.end < key) shifts (λ range small. omega (arith, small.end, more)) is.small))
        (omega arith)

    still : (n : ℕ) → pos n +ℤ pos 0 ≡ pos n
    still n = omega (arith, ints)

    stays : 2 ^ 62 ≤ key → moved shifts key ≡ pos key
    stays more = ap (λ (o : Option ShiftRange). pos key +ℤ unwrap_or (option_map (λ range. range.delta) o) (pos 0)) (sym (none_holds more)) ∙ still key
