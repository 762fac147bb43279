-- What is left of the ranges of a shift, and of ranges of keys, from a key on.
use Rattle.std.proofs.Common.{◌≡◌, refl, ap, sym, ◌∙◌, subst, true, false, max, ℕ, ◌-◌, ◌^◌, ◌<◌, ◌≤◌, arith, List, [], ◌∷◌, length, take, drop, leb, Some, None, pos, ℤ, inl, inr, true≢false}
use Rattle.std.{specs.Prelude.{slice_get, option_map, unwrap_or}, specs.List.AllByRecursion, specs.Ordering.int_eq, proofs.lemmas.Bool.{cases_lt, lt-leb}, proofs.lemmas.List.take_rest, proofs.lemmas.Option.{none-some, same_Some}}
use Rattle.key_lists.{specs.Keys.is_among, proofs.Among.each_among, proofs.Every.{every_weaker, filter_none}, proofs.Parts.every-drop}
use Rattle.row_set.{specs.declared.ranges.Range.Range, specs.Choice.AreAhead, specs.Ranges.{AreApart, keys_of}, proofs.Merged.{stretch_free, stretch_held}}
use Rattle.tick_model.{specs.declared.update.ShiftRange.ShiftRange, specs.Printable.IsShiftRange, specs.Shifts.delta_at}
use Rattle.shift_data.{specs.declared.parts.Part.Part, specs.declared.parts.Segment.Segment, specs.Movers.IsMove, specs.Parts.{from_on, IsSegment}, specs.ShiftLists.IsShiftList, proofs.Searches.{apart-drop, find-drop}}

-- the ranges of a shift from the i-th on
pub shifts_left : (shifts : List ShiftRange) (i : ℕ) → IsShiftList shifts → IsShiftList (take (length shifts - i) (drop i shifts))
shifts_left shifts i h =
    subst IsShiftList (sym (take_rest shifts i)) (record { apart = apart-drop shifts i h.apart; small = every-drop (IsShiftRange (2 ^ 62)) i shifts h.small })

pub same_left : (shifts : List ShiftRange) (i key other : ℕ) → AllByRecursion (λ range. range.end < key) (take i shifts) → key ≤ other → delta_at (take (length shifts - i) (drop i shifts)) other ≡ delta_at shifts other
same_left shifts i key other ended le =
    ap (λ those. delta_at those other) (take_rest shifts i)
    ∙ ap (λ found. unwrap_or (option_map (λ (range : ShiftRange). range.delta) found) (pos 0))
    (sym (find-drop other shifts i (every_weaker (λ range. range.end < key) (λ range. range.end < other) (take i shifts) (λ range below. omega (arith, below, le)) ended)))

-- what stands for a shift and for keys from a key on
pub record StandFor (shifts : List ShiftRange) (keys : List ℕ) (from : ℕ) (ranges : List ShiftRange) (runs : List Range) : Type 0 where
  pub list : IsShiftList ranges
  pub ahead : AreAhead from runs
  pub same_shift : (key : ℕ) → from ≤ key → delta_at ranges key ≡ delta_at shifts key
  pub same_keys : (key : ℕ) → from ≤ key → is_among key (keys_of runs) ≡ is_among key keys

pub all_ahead : (runs : List Range) → AreApart 0 runs → AreAhead 0 runs
all_ahead [] h = tt
all_ahead (run ∷ runs) h = (omega arith, h)

pub stand_at_first : (shifts : List ShiftRange) (keys : List ℕ) (runs : List Range) → IsShiftList shifts → AreApart 0 runs → keys_of runs ≡ keys → StandFor shifts keys 0 shifts runs
stand_at_first shifts keys runs list apart held = record {
  list = list;
  ahead = all_ahead runs apart;
  same_shift = λ key le. refl;
  same_keys = λ key le. ap (is_among key) held;
}

pub stand_further : (shifts : List ShiftRange) (keys : List ℕ) (from next : ℕ) (ranges further : List ShiftRange) (runs rest : List Range) → StandFor shifts keys from ranges runs → from ≤ next → IsShiftList further → ((key : ℕ) → next ≤ key → delta_at further key ≡ delta_at ranges key) → AreAhead next rest → ((key : ℕ) → next ≤ key → is_among key (keys_of rest) ≡ is_among key (keys_of runs)) → StandFor shifts keys next further rest
stand_further shifts keys from next ranges further runs rest h on list same_shift ahead same_keys = record {
  list = list;
  ahead = ahead;
  same_shift = λ key le. same_shift key le ∙ h.same_shift key (omega arith);
  same_keys = λ key le. same_keys key le ∙ h.same_keys key (omega arith);
}

-- a part of what stands for them is one of them
pub move_of : (shifts : List ShiftRange) (keys : List ℕ) (from : ℕ) (ranges : List ShiftRange) (runs : List Range) (part : Part) → StandFor shifts keys from ranges runs → IsMove (delta_at ranges) (keys_of runs) from part → IsMove (delta_at shifts) keys from part
move_of shifts keys from ranges runs part h is = record {
  above = is.above;
  order = is.order;
  small = is.small;
  first = sym (h.same_keys part.first is.above) ∙ is.first;
  none_before = λ key above below. sym (h.same_keys key above) ∙ is.none_before key above below;
  same = λ key above below. sym (h.same_shift key (omega (arith, is.above))) ∙ is.same key above below;
  whole = λ moves key above below. sym (h.same_keys key (omega (arith, is.above))) ∙ is.whole moves key above below;
}

-- no key is left
pub none_left : (shifts : List ShiftRange) (keys : List ℕ) (from : ℕ) (ranges : List ShiftRange) (runs : List Range) → StandFor shifts keys from ranges runs → runs ≡ [] → from_on from keys ≡ []
none_left shifts keys from ranges runs h none =
    filter_none (leb from) keys (every_weaker (λ key. is_among key keys ≡ true) (λ key. leb from key ≡ false) keys before (each_among keys))
  where
    before : (key : ℕ) → is_among key keys ≡ true → leb from key ≡ false
    before key among =
        elim (cases_lt key from) [
          | inl below ↦ lt-leb from key below
          | inr above ↦ absurd (true≢false (sym among ∙ sym (h.same_keys key above) ∙ ap (λ those. is_among key (keys_of those)) none))
        ]

pub no_first : (runs : List Range) → None ≡ slice_get runs 0 → runs ≡ []
no_first [] e = refl
no_first (run ∷ runs) e = absurd (none-some run e)

-- the part that begins with the first key of the first range
pub move_ahead : (move : ℕ → ℤ) (runs : List Range) (from first : ℕ) (run : Range) (segment : Segment) (last : ℕ) → AreAhead from runs → Some run ≡ slice_get runs 0 → first ≡ max run.first from → IsSegment move first segment → first ≤ last → last ≤ segment.last → (int_eq segment.delta (pos 0) ≡ false → last ≤ run.last) → let part : Part = record { first = first; last = last; delta = segment.delta } in IsMove move (keys_of runs) from part
move_ahead move [] from first run segment last h is begins s order until in_run = absurd (none-some run (sym is))
move_ahead move (head ∷ rest) from first run segment last h is begins s order until in_run =
    let same : run ≡ head = same_Some run head is in
    let ends : from ≤ run.last = subst (λ (range : Range). from ≤ range.last) (sym same) h.0 in
    let ascends : run.first ≤ run.last = subst (λ (range : Range). range.first ≤ range.last) (sym same) h.1.0.ascends in
    record {
      above = omega arith;
      order = order;
      small = omega (arith, s.small);
      first = stretch_held first first (head ∷ rest) run is (omega arith) (omega arith) (omega arith);
      none_before = λ key above below. stretch_free from key (head ∷ rest) run is h (omega arith);
      same = λ key above below. s.same key above (omega arith);
      whole = λ moves key above below. stretch_held first key (head ∷ rest) run is (omega arith) above (omega (arith, in_run moves));
    }

pub first_inside : (runs : List Range) (from : ℕ) (run : Range) → AreAhead from runs → Some run ≡ slice_get runs 0 → (max run.first from < 2 ^ 62) × (max run.first from ≤ run.last)
first_inside [] from run h is = absurd (none-some run (sym is))
first_inside (head ∷ rest) from run h is =
    let same : run ≡ head = same_Some run head is in
    let ends : from ≤ run.last = subst (λ (range : Range). from ≤ range.last) (sym same) h.0 in
    let ascends : run.first ≤ run.last = subst (λ (range : Range). range.first ≤ range.last) (sym same) h.1.0.ascends in
    let small : run.last < 2 ^ 62 = subst (λ (range : Range). range.last < 2 ^ 62) (sym same) h.1.0.small in
    (omega arith, omega arith)
