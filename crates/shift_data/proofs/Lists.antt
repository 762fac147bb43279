-- Shifts that are put together from ranges.
use Rattle.std.proofs.Common.{◌≡◌, refl, ap, sym, ◌∙◌, subst, true, false, cond, ℕ, suc, ◌+◌, ◌-◌, ◌^◌, ◌<◌, ◌≤◌, arith, List, [], ◌∷◌, ◌++◌, length, pos, ℤ, negsuc, ltb, leb, ltb-false, leb-false, inl, inr}
use Rattle.std.{specs.Prelude.{slice_get, Option, Some, None, IfSome, ◌<ℤ◌}, specs.List.AllByRecursion, specs.Option.option_or, proofs.lemmas.Bool.cases_Bool, proofs.lemmas.Option.none-some, specs.Ordering.int_eq}
use Rattle.shift_data.{specs.declared.shifts.ShiftFault.TheVariants.{Backward, NotAscending, ZeroDelta}, specs.Pushes.{push_fault, not_past}, specs.ShiftLists.{IsShiftList, offset_range, offset_by}}
use Rattle.key_lists.proofs.Every.{every_weaker, every-append, every-map}
use Rattle.tick_model.{specs.declared.update.ShiftRange.ShiftRange, specs.Printable.{IsShift, IsShiftRange}}

-- one more range, past the last one
IsPastLast : ℕ → List ShiftRange → Type 0
IsPastLast begin shifts = (k : ℕ) → suc k ≡ length shifts → IfSome (slice_get shifts k) (λ last. last.end < begin)

above : (begin : ℕ) (first : ShiftRange) (others : List ShiftRange) → IsShift (first ∷ others) → IsPastLast begin (first ∷ others) → first.end < begin
unfolding IsPastLast
above begin first [] h past = past 0 refl
above begin first (second ∷ others) h past = let next = above begin second others h.3 (λ k e. past (suc k) (ap suc e)) in omega (arith, next, h.2.0, h.3.0)

apart_push : (shifts : List ShiftRange) (range : ShiftRange) → range.begin ≤ range.end → int_eq range.delta (pos 0) ≡ false → IsPastLast range.begin shifts → IsShift shifts → IsShift (shifts ++ range ∷ [])
unfolding IsPastLast
apart_push [] range order moves past h = (order, moves, tt, tt)
apart_push (first ∷ others) range order moves past h =
    (h.0, h.1, every-append (λ next. first.end < next.begin) others (range ∷ []) h.2 (above range.begin first others h past, tt), apart_push others range order moves (λ k e. past (suc k) (ap suc e)) h.3)

past_last : (begin : ℕ) (shifts : List ShiftRange) → IfSome (slice_get shifts (length shifts - 1)) (λ last. last.end < begin) → IsPastLast begin shifts
unfolding IsPastLast
past_last begin shifts h k e = subst (λ i. IfSome (slice_get shifts i) (λ last. last.end < begin)) (omega arith) h

pub list_push : (shifts : List ShiftRange) (range : ShiftRange) → range.begin ≤ range.end → int_eq range.delta (pos 0) ≡ false → IfSome (slice_get shifts (length shifts - 1)) (λ last. last.end < range.begin) → IsShiftRange (2 ^ 62) range → IsShiftList shifts → IsShiftList (shifts ++ range ∷ [])
list_push shifts range order moves past small h = record {
  apart = apart_push shifts range order moves (past_last range.begin shifts past) h.apart;
  small = every-append (IsShiftRange (2 ^ 62)) shifts (range ∷ []) h.small (small, tt);
}

-- what there is where nothing speaks against a range
pub pushed : (shifts : List ShiftRange) (begin end : ℕ) (delta : ℤ) → begin < 2 ^ 62 → end < 2 ^ 62 → delta <ℤ pos (2 ^ 62) → negsuc (2 ^ 62 - 1) <ℤ delta → push_fault shifts begin end delta ≡ None → IsShiftList shifts → let range : ShiftRange = record { begin = begin; end = end; delta = delta } in IsShiftList (shifts ++ range ∷ [])
pushed shifts begin end delta b e up down none h =
    elim (cases_Bool (ltb end begin)) [
      | inl backward ↦ absurd (none-some Backward (sym none ∙ ap (λ t. cond t (Some Backward) (option_or (not_past (slice_get shifts (length shifts - 1)) begin) (cond (int_eq delta (pos 0)) (Some ZeroDelta) None))) backward))
      | inr forward ↦ rest (slice_get shifts (length shifts - 1)) (list_push shifts (record { begin = begin; end = end; delta = delta })) (sym (ap (λ t. cond t (Some Backward) (option_or (not_past (slice_get shifts (length shifts - 1)) begin) (cond (int_eq delta (pos 0)) (Some ZeroDelta) None))) forward) ∙ none) (ltb-false end begin forward)
    ]
  where
    nonzero : cond (int_eq delta (pos 0)) (Some ZeroDelta) None ≡ None → int_eq delta (pos 0) ≡ false
    nonzero h = elim (int_eq delta (pos 0)) as (λ t. cond t (Some ZeroDelta) None ≡ None → t ≡ false) [ true ↦ λ k. absurd (none-some ZeroDelta (sym k)) | false ↦ λ k. refl ] h

    rest : (last : Option ShiftRange) → (begin ≤ end → int_eq delta (pos 0) ≡ false → IfSome last (λ last. last.end < begin) → IsShiftRange (2 ^ 62) (record { begin = begin; end = end; delta = delta }) → IsShiftList shifts → IsShiftList (shifts ++ (record { begin = begin; end = end; delta = delta }) ∷ [])) → option_or (not_past last begin) (cond (int_eq delta (pos 0)) (Some ZeroDelta) None) ≡ None → begin ≤ end → IsShiftList (shifts ++ (record { begin = begin; end = end; delta = delta }) ∷ [])
    rest None push k order = push order (nonzero k) tt (record { begin = b; end = e; up = up; down = down }) h
    rest (Some last) push k order =
        elim (cases_Bool (leb begin last.end)) [
          | inl inside ↦ absurd (none-some (NotAscending last.end begin) (sym k ∙ ap (λ t. option_or (cond t (Some (NotAscending last.end begin)) None) (cond (int_eq delta (pos 0)) (Some ZeroDelta) None)) inside))
          | inr past ↦ push order (nonzero (sym (ap (λ t. option_or (cond t (Some (NotAscending last.end begin)) None) (cond (int_eq delta (pos 0)) (Some ZeroDelta) None)) past) ∙ k)) (leb-false begin last.end past) (record { begin = b; end = e; up = up; down = down }) h
        ]

-- all ranges moved up
apart-offset : (by : ℕ) (shifts : List ShiftRange) → IsShift shifts → IsShift (offset_by by shifts)
apart-offset by [] h = tt
apart-offset by (range ∷ shifts) h = (
  omega (arith, h.0),
  h.1,
  every-map (λ next. range.end + by < next.begin) (offset_range by) shifts (every_weaker (λ next. range.end < next.begin) (λ next. range.end + by < next.begin + by) shifts (λ next past. omega (arith, past)) h.2),
  apart-offset by shifts h.3,
)

small-offset : (by : ℕ) (shifts : List ShiftRange) → IsShift shifts → AllByRecursion (λ range. range.end + by < 2 ^ 62) shifts → AllByRecursion (IsShiftRange (2 ^ 62)) shifts → AllByRecursion (IsShiftRange (2 ^ 62)) (offset_by by shifts)
small-offset by [] a room h = tt
small-offset by (range ∷ shifts) a room h = (record { begin = omega (arith, a.0, room.0); end = room.0; up = h.0.up; down = h.0.down }, small-offset by shifts a.3 room.1 h.1)

pub list-offset : (by : ℕ) (shifts : List ShiftRange) → AllByRecursion (λ range. range.end + by < 2 ^ 62) shifts → IsShiftList shifts → IsShiftList (offset_by by shifts)
list-offset by shifts room h = record { apart = apart-offset by shifts h.apart; small = small-offset by shifts h.apart room h.small }
