-- Where a search cuts the ranges of a shift, and which range holds a key.
use Rattle.std.proofs.Common.{◌≡◌, refl, ap, sym, ◌∙◌, subst, Bool, true, false, cond, ℕ, zero, suc, ◌<◌, ◌≤◌, arith, List, [], ◌∷◌, length, take, drop, get_or, leb, ltb, ltb-true, ltb-false, Option, Some, None}
use Rattle.std.{specs.Prelude.{find, option_copied}, specs.Bool.then_some, specs.Slice.IsItemAt, proofs.lemmas.Option.{none-some, same_Some}, specs.List.AllByRecursion, specs.List.Sorted.{IsPartitionPoint, IsPartitionedBy, IsNonDecreasingBy}, proofs.lemmas.Bool.{le-leb, lt-leb, and_left, and_right, and_from}, proofs.lemmas.List.Sorted.IsPartitionedBy-ltb}
use denote.Ref.{Bor}
use Rattle.key_lists.{proofs.Every.{every_weaker, all_from}, proofs.Parts.{every_before, every_from}}
use Rattle.tick_model.{specs.declared.update.ShiftRange.ShiftRange, specs.Printable.IsShift, specs.Shifts.holds}

ordered : (shifts : List ShiftRange) → IsShift shifts → AllByRecursion (λ range. range.begin ≤ range.end) shifts
ordered [] h = tt
ordered (range ∷ shifts) h = (h.0, ordered shifts h.3)

ends_rise : (shifts : List ShiftRange) → IsShift shifts → IsNonDecreasingBy (λ range. range.end) shifts
ends_rise [] h i j d le lt = absurd (omega arith)
ends_rise (range ∷ shifts) h zero zero d le lt = omega arith
ends_rise (range ∷ shifts) h zero (suc j) d le lt =
    omega (arith, all_from (λ next. range.end < next.begin) shifts h.2 j d (omega arith), all_from (λ next. next.begin ≤ next.end) shifts (ordered shifts h.3) j d (omega arith))
ends_rise (range ∷ shifts) h (suc i) zero d le lt = absurd (omega arith)
ends_rise (range ∷ shifts) h (suc i) (suc j) d le lt = ends_rise shifts h.3 i j d (omega arith) (omega arith)

pub ends_parted : (key : ℕ) (shifts : List ShiftRange) → IsShift shifts → IsPartitionedBy (λ range. ltb range.end key) shifts
ends_parted key shifts h = IsPartitionedBy-ltb (λ range. range.end) shifts key (ends_rise shifts h)

pub ended_part : (key : ℕ) (shifts : List ShiftRange) (i : ℕ) → IsPartitionPoint (λ range. ltb range.end key ≡ true) (λ range. ltb range.end key ≡ false) shifts i → AllByRecursion (λ range. range.end < key) (take i shifts)
ended_part key shifts i h = every_before (λ range. range.end < key) shifts i (λ k d lt. ltb-true (get_or shifts k d).end key (h.0 k d (omega arith) lt))

pub other_part : (key : ℕ) (shifts : List ShiftRange) (i : ℕ) → IsPartitionPoint (λ range. ltb range.end key ≡ true) (λ range. ltb range.end key ≡ false) shifts i → AllByRecursion (λ range. key ≤ range.end) (drop i shifts)
other_part key shifts i h = every_from (λ range. key ≤ range.end) shifts i (λ k d le lt. ltb-false (get_or shifts k d).end key (h.1 k d le lt))

-- a range holds the keys from its begin to its end
pub holds_not_before : (range : ShiftRange) (key : ℕ) → key < range.begin → holds range key ≡ false
holds_not_before range key h = and_left (leb range.begin key) (leb key range.end) (lt-leb range.begin key h)

pub holds_not_after : (range : ShiftRange) (key : ℕ) → range.end < key → holds range key ≡ false
holds_not_after range key h = and_right (leb range.begin key) (leb key range.end) (lt-leb key range.end h)

pub holds_within : (range : ShiftRange) (key : ℕ) → range.begin ≤ key → key ≤ range.end → holds range key ≡ true
holds_within range key above below = and_from (leb range.begin key) (leb key range.end) (le-leb range.begin key above) (le-leb key range.end below)

-- a range that does not hold the key need not be looked at
pub find_past : (range : ShiftRange) (shifts : List ShiftRange) (key : ℕ) → holds range key ≡ false → find (λ range. holds range key) (range ∷ shifts) ≡ find (λ range. holds range key) shifts
find_past range shifts key h = ap (λ b. cond b (Some range) (find (λ range. holds range key) shifts)) h

pub find_here : (range : ShiftRange) (shifts : List ShiftRange) (key : ℕ) → holds range key ≡ true → find (λ range. holds range key) (range ∷ shifts) ≡ Some range
find_here range shifts key h = ap (λ b. cond b (Some range) (find (λ range. holds range key) shifts)) h

-- nor those that end before it
pub find-drop : (key : ℕ) (shifts : List ShiftRange) (i : ℕ) → AllByRecursion (λ range. range.end < key) (take i shifts) → find (λ range. holds range key) shifts ≡ find (λ range. holds range key) (drop i shifts)
find-drop key shifts zero h = refl
find-drop key [] (suc i) h = refl
find-drop key (range ∷ shifts) (suc i) h = find_past range shifts key (holds_not_after range key h.0) ∙ find-drop key shifts i h.1

-- where the first one does not end before the key, none does
pub none_ended : (key : ℕ) (d : ShiftRange) (shifts : List ShiftRange) → IsShift shifts → 0 < length shifts → key ≤ (get_or shifts 0 d).end → AllByRecursion (λ range. key ≤ range.end) shifts
none_ended key d [] h some le = tt
none_ended key d (range ∷ shifts) h some le = (le, later shifts h.2 (ordered shifts h.3))
  where
    later : (others : List ShiftRange) → AllByRecursion (λ next. range.end < next.begin) others → AllByRecursion (λ next. next.begin ≤ next.end) others → AllByRecursion (λ next. key ≤ next.end) others
    later [] past order = tt
    later (next ∷ others) past order = (omega (arith, past.0, order.0, le), later others past.1 order.1)

-- nor those that begin past it
pub find_none : (key : ℕ) (shifts : List ShiftRange) → AllByRecursion (λ range. key < range.begin) shifts → find (λ range. holds range key) shifts ≡ None
find_none key [] h = refl
find_none key (range ∷ shifts) h = find_past range shifts key (holds_not_before range key h.0) ∙ find_none key shifts h.1

pub apart-drop : (shifts : List ShiftRange) (i : ℕ) → IsShift shifts → IsShift (drop i shifts)
apart-drop shifts zero h = h
apart-drop [] (suc i) h = tt
apart-drop (range ∷ shifts) (suc i) h = apart-drop shifts i h.3

-- the first range that does not end before the key holds it or none does
find_first : (key : ℕ) (range : ShiftRange) (shifts : List ShiftRange) → key ≤ range.end → IsShift (range ∷ shifts) → find (λ range. holds range key) (range ∷ shifts) ≡ cond (leb range.begin key) (Some range) None
find_first key range shifts le h =
    (elim (leb range.begin key) as (λ b. leb range.begin key ≡ b → find (λ range. holds range key) (range ∷ shifts) ≡ cond b (Some range) None) [
      | true ↦ λ e. find_here range shifts key (and_from (leb range.begin key) (leb key range.end) e (le-leb key range.end le))
      | false ↦ λ e. find_past range shifts key (and_left (leb range.begin key) (leb key range.end) e) ∙ find_none key shifts (every_weaker (λ next. range.end < next.begin) (λ next. key < next.begin) shifts (λ next past. omega (arith, le, past)) h.2)
    ]) refl

then_some_is : {X : Type 0} (b : Bool) (x : X) → then_some b x ≡ cond b (Some x) None
then_some_is true x = refl
then_some_is false x = refl

-- what a search answers
pub found_none : (key : ℕ) (shifts : List ShiftRange) (i : ℕ) → AllByRecursion (λ range. range.end < key) (take i shifts) → length shifts ≤ i → None ≡ find (λ range. holds range key) shifts
found_none key shifts i ended past = sym (find-drop key shifts i ended ∙ ap (λ others. find (λ range. holds range key) others) (drop_past shifts i past))
  where
    drop_past : (xs : List ShiftRange) (i : ℕ) → length xs ≤ i → drop i xs ≡ []
    drop_past [] zero le = refl
    drop_past [] (suc i) le = refl
    drop_past (x ∷ xs) zero le = absurd (omega arith)
    drop_past (x ∷ xs) (suc i) le = drop_past xs i (omega arith)

pub found_some : (key : ℕ) (shifts : List ShiftRange) (i : ℕ) (range : ShiftRange) → IsShift shifts → AllByRecursion (λ range. range.end < key) (take i shifts) → AllByRecursion (λ range. key ≤ range.end) (drop i shifts) → i < length shifts → range ≡ get_or shifts i range → then_some (leb range.begin key) range ≡ find (λ range. holds range key) shifts
found_some key shifts i range h ended others lt is =
    then_some_is (leb range.begin key) range
    ∙ sym (find-drop key shifts i ended ∙ here shifts i range lt is h others)
  where
    here : (xs : List ShiftRange) (i : ℕ) (range : ShiftRange) → i < length xs → range ≡ get_or xs i range → IsShift xs → AllByRecursion (λ range. key ≤ range.end) (drop i xs) → find (λ range. holds range key) (drop i xs) ≡ cond (leb range.begin key) (Some range) None
    here [] i range lt is h others = absurd (omega arith)
    here (x ∷ xs) zero range lt is h others = find_first key x xs others.0 h ∙ ap (λ (r : ShiftRange). cond (leb r.begin key) (Some r) None) (sym is)
    here (x ∷ xs) (suc i) range lt is h others = here xs i range (omega arith) is h.3 others

-- what a look-up by an index says
pub missed : {X : Type 0} (xs : List X) (i : ℕ) (o : Option (Bor X)) → IsItemAt xs i o → option_copied o ≡ None → length xs ≤ i
missed xs i None h e = h.3
missed xs i (Some x) h e = absurd (none-some x.now (sym e))

pub got : {X : Type 0} (xs : List X) (i : ℕ) (o : Option (Bor X)) (x : X) → IsItemAt xs i o → option_copied o ≡ Some x → (i < length xs) × (x ≡ get_or xs i x)
got xs i None x h e = absurd (none-some x e)
got xs i (Some y) x h e = (h.3.0, subst (λ z. z ≡ get_or xs i z) (same_Some y.now x e) h.1)
