-- Ranges of removed keys and of rows that move, read back.
use Rattle.std.proofs.Common.{◌≡◌, refl, ap, sym, ◌∙◌, subst, Bool, true, false, true≢false, cond, ℕ, suc, ◌+◌, ◌-◌, ◌<◌, ◌≤◌, arith, List, [], ◌∷◌, ◌++◌, length}
use Rattle.std.{specs.Prelude.{ℤ, pos, Option, Some, None, nat_lt, nat_le, slice_get}, specs.Option.option_or, specs.Ordering.int_eq, specs.List.{AllByRecursion, range_with_len}, proofs.lemmas.Bool.{ltb-true, leb-true}}
use Rattle.key_lists.{proofs.Every.every-append, proofs.Parts.{every_front, every_back}}
use Rattle.row_set.specs.Ranges.{keys_from}
use Rattle.shift_data.{specs.declared.shifts.ShiftFault.ShiftFault, specs.declared.shifts.ShiftFault.TheVariants.{Backward, NotAscending, ZeroDelta}, specs.Pushes.{not_past, push_fault}}
use Rattle.tick_model.{specs.declared.update.ShiftRange.ShiftRange, specs.Printable.IsShift}

pub run_first : (first last : ℕ) → first ≤ last → keys_from first last ≡ first ∷ range_with_len (first + 1) (last - first)
run_first first last h = let e : last + 1 - first ≡ suc (last - first) = omega arith in ap (range_with_len first) e

pub same_range : (begin end : ℕ) (delta : ℤ) (range : ShiftRange) → begin ≡ range.begin → end ≡ range.end → delta ≡ range.delta → (let r : ShiftRange = record { begin = begin; end = end; delta = delta } in r) ≡ range
same_range begin end delta range b e d =
    ap (λ n. let r : ShiftRange = record { begin = n; end = end; delta = delta } in r) b
    ∙ ap (λ n. let r : ShiftRange = record { begin = range.begin; end = n; delta = delta } in r) e
    ∙ ap (λ z. let r : ShiftRange = record { begin = range.begin; end = range.end; delta = z } in r) d

-- the front of a shift is one
pub shift_front : (xs : List ShiftRange) (range : ShiftRange) (later : List ShiftRange) → IsShift (xs ++ range ∷ later) → IsShift (xs ++ range ∷ [])
shift_front [] range later h = (h.0, h.1, tt, tt)
shift_front (x ∷ xs) range later h =
    let IsPast = λ (next : ShiftRange). x.end < next.begin in
    (h.0, h.1, every-append IsPast xs (range ∷ []) (every_front IsPast xs (range ∷ later) h.2) ((every_back IsPast xs (range ∷ later) h.2).0, tt), shift_front xs range later h.3)

last_range : (xs : List ShiftRange) (range : ShiftRange) → IsShift (xs ++ range ∷ []) → (range.begin ≤ range.end) × (int_eq range.delta (pos 0) ≡ false)
last_range [] range h = (h.0, h.1)
last_range (x ∷ xs) range h = last_range xs range h.3

past_last : (xs : List ShiftRange) (range : ShiftRange) → IsShift (xs ++ range ∷ []) → not_past (slice_get xs (length xs - 1)) range.begin ≡ None
past_last [] range h = refl
past_last (x ∷ []) range h =
    (elim (nat_le range.begin x.end) as (λ b. nat_le range.begin x.end ≡ b → cond b (Some (NotAscending x.end range.begin)) None ≡ None) [
      | true ↦ λ e. absurd (omega (arith, leb-true range.begin x.end e, h.2.0))
      | false ↦ λ e. refl
    ]) refl
past_last (x ∷ y ∷ xs) range h = ap (λ n. not_past (slice_get (x ∷ y ∷ xs) n) range.begin) (place (length xs)) ∙ past_last (y ∷ xs) range h.3
  where
    place : (n : ℕ) → suc (suc n) - 1 ≡ suc (suc n - 1)
    place n = omega arith

-- a range that continues a shift may be put behind it
pub may_be_put : (xs : List ShiftRange) (range : ShiftRange) → IsShift (xs ++ range ∷ []) → push_fault xs range.begin range.end range.delta ≡ None
may_be_put xs range h =
    let last = last_range xs range h in
    (elim (nat_lt range.end range.begin) as (λ b. nat_lt range.end range.begin ≡ b → cond b (Some Backward) (option_or (not_past (slice_get xs (length xs - 1)) range.begin) (cond (int_eq range.delta (pos 0)) (Some ZeroDelta) None)) ≡ None) [
      | true ↦ λ e. absurd (omega (arith, ltb-true range.end range.begin e, last.0))
      | false ↦ λ e.
          ap (λ o. option_or o (cond (int_eq range.delta (pos 0)) (Some ZeroDelta) None)) (past_last xs range h)
          ∙ ap (λ b. let o : Option ShiftFault = cond b (Some ZeroDelta) None in o) last.1
    ]) refl
