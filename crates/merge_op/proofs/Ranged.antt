-- Ranges of a shift that are put one behind the other.
use Rattle.std.proofs.Common.{◌≡◌, refl, ap, ap₂, sym, ◌∙◌, subst, Bool, true, false, cond, ◌&&◌, ℕ, zero, suc, ◌+◌, ◌-◌, ◌<◌, ◌≤◌, ◌^◌, arith, min, le-leb, inl, inr, List, [], ◌∷◌, ◌++◌, Option, Some, None, find, ℤ, pos, ◌+ℤ◌, length, get_or}
use Rattle.std.{specs.Prelude.{option_map, unwrap_or}, specs.List.AllByRecursion, proofs.lemmas.Bool.cases_lt, proofs.lemmas.Int.ints}
use Rattle.tick_laws.proofs.Moves.{not_before, not_after, delta_other}
use Rattle.key_lists.proofs.Every.{every_weaker}
use Rattle.tick_model.{specs.declared.update.ShiftRange.ShiftRange, specs.Printable.IsShift, specs.Shifts.{delta_at, holds}}
use Rattle.merge_op.specs.Steps.{IsStep}

abbrev under : Bool → ShiftRange → List ShiftRange → ℕ → ℤ
under here range ranges key = unwrap_or (option_map (λ (range : ShiftRange). range.delta) (cond here (Some range) (find (λ range. holds range key) ranges))) (pos 0)

pub delta_here : (range : ShiftRange) (ranges : List ShiftRange) (key : ℕ) → range.begin ≤ key → key ≤ range.end → delta_at (range ∷ ranges) key ≡ range.delta
delta_here range ranges key h k = ap (λ b. under b range ranges key) (ap₂ (λ a b. a && b) (le-leb range.begin key h) (le-leb key range.end k))

-- keys before all ranges, or behind them, stay
pub delta_before : (ranges : List ShiftRange) (key : ℕ) → AllByRecursion (λ range. key < range.begin) ranges → delta_at ranges key ≡ pos 0
delta_before [] key h = refl
delta_before (range ∷ ranges) key h = delta_other range ranges key (not_before range key h.0) ∙ delta_before ranges key h.1

pub delta_behind : (ranges : List ShiftRange) (key : ℕ) → AllByRecursion (λ range. range.end < key) ranges → delta_at ranges key ≡ pos 0
delta_behind [] key h = refl
delta_behind (range ∷ ranges) key h = delta_other range ranges key (not_after range key h.0) ∙ delta_behind ranges key h.1

-- a range behind the others says nothing of the keys before it, and all of its own
pub delta_last_other : (ranges : List ShiftRange) (range : ShiftRange) (key : ℕ) → key < range.begin → delta_at (ranges ++ range ∷ []) key ≡ delta_at ranges key
delta_last_other [] range key h = delta_other range [] key (not_before range key h)
delta_last_other (first ∷ ranges) range key h = by_first (holds first key) (delta_last_other ranges range key h)
  where
    by_first : (b : Bool) → delta_at (ranges ++ range ∷ []) key ≡ delta_at ranges key → under b first (ranges ++ range ∷ []) key ≡ under b first ranges key
    by_first true same = refl
    by_first false same = same

pub delta_last : (ranges : List ShiftRange) (range : ShiftRange) (key : ℕ) → AllByRecursion (λ other. other.end < range.begin) ranges → range.begin ≤ key → key ≤ range.end → delta_at (ranges ++ range ∷ []) key ≡ range.delta
delta_last [] range key h from to = delta_here range [] key from to
delta_last (first ∷ ranges) range key h from to =
    delta_other first (ranges ++ range ∷ []) key (not_after first key (let past : first.end < key = omega (arith, h.0, from) in past)) ∙ delta_last ranges range key h.1 from to

-- the ranges of an input begin one behind the other
abbrev pub Ascend : List ShiftRange → Type 0
Ascend [] = Unit {0}
Ascend (range ∷ ranges) = (range.begin ≤ range.end) × (AllByRecursion (λ other. range.end < other.begin) ranges × Ascend ranges)

-- what is put so far: the ranges of the keys before `from`; `rest` are the input's ranges that are still to come
pub record IsPut (input rest old shift : List ShiftRange) (start end from : ℕ) (by : ℤ) : Type 0 where
  pub after : start ≤ from
  pub order : from ≤ end
  pub before : AllByRecursion (λ range. range.end < from) shift
  pub starts : AllByRecursion (λ range. from ≤ start + range.begin) rest
  pub ascend : Ascend rest
  pub passed : (key : ℕ) → from ≤ key → key < end → delta_at input (key - start) ≡ delta_at rest (key - start)
  pub earlier : (key : ℕ) → key < start → delta_at shift key ≡ delta_at old key
  pub moved : (key : ℕ) → start ≤ key → key < from → key < 2 ^ 62 → IsStep (delta_at input (key - start) +ℤ by) → delta_at shift key ≡ delta_at input (key - start) +ℤ by

pub put_none : (input old : List ShiftRange) (start end : ℕ) (by : ℤ) → start ≤ end → AllByRecursion (λ range. range.end < start) old → Ascend input → IsPut input input old old start end start by
put_none input old start end by order before ascend = record {
  after = omega arith;
  order = order;
  before = before;
  starts = all_from input;
  ascend = ascend;
  passed = λ key from to. refl;
  earlier = λ key less. refl;
  moved = λ key from to. absurd (let no : start < start = omega (arith, from, to) in omega (arith, no));
}
  where
    all_from : (ranges : List ShiftRange) → AllByRecursion (λ range. start ≤ start + range.begin) ranges
    all_from [] = tt
    all_from (range ∷ ranges) = (omega arith, all_from ranges)

-- what one more range puts
pub record Puts (old new : List ShiftRange) (begin end : ℕ) (delta : ℤ) : Type 0 where
  pub before : AllByRecursion (λ range. range.end < end) new
  pub earlier : (key : ℕ) → key < begin → delta_at new key ≡ delta_at old key
  pub moved : (key : ℕ) → begin ≤ key → key < end → key < 2 ^ 62 → IsStep delta → delta_at new key ≡ delta

no_delta : (by : ℤ) → by ≡ pos 0 +ℤ by
no_delta by = omega (arith, ints)

-- the keys up to the next range move with the region alone
pub put_gap : (input rest old shift new : List ShiftRange) (start end from to : ℕ) (by : ℤ) → IsPut input rest old shift start end from by → from ≤ to → to ≤ end → AllByRecursion (λ range. to ≤ start + range.begin) rest → Puts shift new from to by → IsPut input rest old new start end to by
put_gap input rest old shift new start end from to by h order within starts puts = record {
  after = omega (arith, h.after, order);
  order = within;
  before = puts.before;
  starts = starts;
  ascend = h.ascend;
  passed = λ key past less. h.passed key (omega (arith, order, past)) less;
  earlier = λ key less. puts.earlier key (let before : key < from = omega (arith, less, h.after) in before) ∙ h.earlier key less;
  moved = λ key past less small step.
      elim (cases_lt key from) [
        | inl early ↦ puts.earlier key early ∙ h.moved key past early small step
        | inr late ↦
            let alone : by ≡ delta_at input (key - start) +ℤ by =
            no_delta by ∙ ap (λ z. z +ℤ by) (sym (h.passed key late (let inside : key < end = omega (arith, less, within) in inside) ∙ delta_before rest (key - start)
            (every_weaker (λ range. to ≤ start + range.begin) (λ range. key - start < range.begin) rest (λ range far. let before : key - start < range.begin = omega (arith, far, less, past) in before) starts))) in
            puts.moved key late less small (subst IsStep (sym alone) step) ∙ alone
      ];
}

-- and those of the range with both
pub put_own : (input rest old shift new : List ShiftRange) (range : ShiftRange) (start end from to : ℕ) (by : ℤ) → IsPut input (range ∷ rest) old shift start end from by → from ≡ min end (start + range.begin) → to ≡ min end (start + range.end + 1) → Puts shift new from to (range.delta +ℤ by) → IsPut input rest old new start end to by
put_own input rest old shift new range start end from to by h from_is to_is puts = record {
  after = omega (arith, h.after, from_is, to_is, h.ascend.0);
  order = omega (arith, to_is);
  before = puts.before;
  starts = every_weaker (λ other. range.end < other.begin) (λ other. to ≤ start + other.begin) rest (λ other far. omega (arith, far, to_is)) h.ascend.1.0;
  ascend = h.ascend.1.1;
  passed = λ key past less.
      let behind : range.end < key - start = omega (arith, past, less, to_is) in
      h.passed key (omega (arith, past, from_is, to_is, h.ascend.0)) less ∙ delta_other range rest (key - start) (not_after range (key - start) behind);
  earlier = λ key less. puts.earlier key (let before : key < from = omega (arith, less, h.after) in before) ∙ h.earlier key less;
  moved = λ key past less small step.
      elim (cases_lt key from) [
        | inl early ↦ puts.earlier key early ∙ h.moved key past early small step
        | inr late ↦
            let from_begin : range.begin ≤ key - start = omega (arith, late, less, from_is, to_is) in
            let to_end : key - start ≤ range.end = omega (arith, less, to_is) in
            let own : delta_at input (key - start) ≡ range.delta = h.passed key late (omega (arith, less, to_is)) ∙ delta_here range rest (key - start) from_begin to_end in
            puts.moved key late less small (subst (λ z. IsStep (z +ℤ by)) own step) ∙ ap (λ z. z +ℤ by) (sym own)
      ];
}

-- the next range, with the keys before it
pub next_orders : (input rest old shift : List ShiftRange) (range : ShiftRange) (start end from begin next : ℕ) (by : ℤ) → IsPut input (range ∷ rest) old shift start end from by → begin ≡ min end (start + range.begin) → next ≡ min end (start + range.end + 1) → (from ≤ begin) × (begin ≤ next)
next_orders input rest old shift range start end from begin next by h b n = (omega (arith, h.order, h.starts.0, b), omega (arith, h.ascend.0, b, n))

pub put_next : (input rest old shift middle new : List ShiftRange) (range : ShiftRange) (start end from begin next : ℕ) (by : ℤ) → IsPut input (range ∷ rest) old shift start end from by → begin ≡ min end (start + range.begin) → next ≡ min end (start + range.end + 1)
    → Puts shift middle from begin by → Puts middle new begin next (range.delta +ℤ by) → IsPut input rest old new start end next by
put_next input rest old shift middle new range start end from begin next by h b n gap own =
    put_own input rest old middle new range start end begin next by
    (put_gap input (range ∷ rest) old shift middle start end from begin by h (next_orders input rest old shift range start end from begin next by h b n).0 (omega (arith, b))
    (omega (arith, b), every_weaker (λ other. range.end < other.begin) (λ other. begin ≤ start + other.begin) rest (λ other far. omega (arith, far, b, h.ascend.0)) h.ascend.1.0) gap)
    b n own

-- and the keys behind all ranges
pub put_last : (input old shift new : List ShiftRange) (start end from : ℕ) (by : ℤ) → IsPut input [] old shift start end from by → Puts shift new from end by → IsPut input [] old new start end end by
put_last input old shift new start end from by h gap = put_gap input [] old shift new start end from end by h h.order (omega arith) tt gap

pub ascend_of : (shifts : List ShiftRange) → IsShift shifts → Ascend shifts
ascend_of [] h = tt
ascend_of (range ∷ shifts) h = (h.0, (h.2, ascend_of shifts h.3))

pub place_of : (P : ShiftRange → Type 0) (ranges : List ShiftRange) (i : ℕ) (d : ShiftRange) → AllByRecursion P ranges → i < length ranges → P (get_or ranges i d)
place_of P [] i d h k = absurd (omega (arith, k))
place_of P (range ∷ ranges) zero d h k = h.0
place_of P (range ∷ ranges) (suc i) d h k = place_of P ranges i d h.1 (omega (arith, k))

pub every_last : (P : ShiftRange → Type 0) (ranges : List ShiftRange) (range : ShiftRange) → AllByRecursion P ranges → P range → AllByRecursion P (ranges ++ range ∷ [])
every_last P [] range h p = (p, tt)
every_last P (first ∷ ranges) range h p = (h.0, every_last P ranges range h.1 p)
