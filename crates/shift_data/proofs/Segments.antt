-- The numbers and keys that move by one delta.
use Rattle.std.proofs.Common.{◌≡◌, refl, ap, sym, ◌∙◌, subst, true, ℕ, zero, suc, ◌+◌, ◌-◌, ◌^◌, ◌<◌, ◌≤◌, arith, List, [], ◌∷◌, length, take, drop, get_or, leb, Some, None, Option, pos, negsuc, ℤ, w64, SFits}
use Rattle.std.{specs.Prelude.{find, slice_get, IfSome, option_map, unwrap_or, ◌<ℤ◌}, specs.List.AllByRecursion, proofs.lemmas.Bool.leb-true, proofs.lemmas.Int.ints}
use Rattle.key_lists.{specs.Keys.{is_among, IsRising}, proofs.Every.{every_weaker, all_from}, proofs.Among.of_among, proofs.Parts.first_left}
use Rattle.row_set.specs.Sets.{count_below, IsKeySet}
use Rattle.tick_model.{specs.declared.update.ShiftRange.ShiftRange, specs.Printable.{IsShift, IsShiftRange}, specs.Shifts.{holds, delta_at}}
use Rattle.shift_data.{specs.declared.parts.Part.Part, specs.declared.parts.Segment.Segment, specs.ShiftLists.IsShiftList, specs.Parts.{IsSegment, IsPart, IsLastUpTo}, proofs.Keys.{find_key, none_between, last_below}, proofs.Searches.{find_past, find_here, find_none, holds_within, holds_not_after}}

pub fits_delta : (delta : ℤ) → delta <ℤ pos (2 ^ 62) → negsuc (2 ^ 62 - 1) <ℤ delta → SFits w64 delta
fits_delta (pos n) up down = record { sfits = omega (arith, ints, up) }
fits_delta (negsuc n) up down = record { sfits = omega (arith, ints, down) }

-- which range holds the numbers from a key on, where those before i end before the key
held_from : (key : ℕ) (shifts : List ShiftRange) (i : ℕ) (range : ShiftRange) → i < length shifts → range ≡ get_or shifts i range → AllByRecursion (λ range. range.end < key) (take i shifts) → range.begin ≤ key → (other : ℕ) → key ≤ other → other ≤ range.end → find (λ range. holds range other) shifts ≡ Some range
held_from key [] i range lt is ended le other above below = absurd (omega arith)
held_from key (x ∷ xs) zero range lt is ended le other above below =
    find_here x xs other (subst (λ (r : ShiftRange). holds r other ≡ true) is (holds_within range other (omega arith) below)) ∙ ap (λ (r : ShiftRange). Some r) (sym is)
held_from key (x ∷ xs) (suc i) range lt is ended le other above below =
    find_past x xs other (holds_not_after x other (omega (arith, ended.0))) ∙ held_from key xs i range (omega arith) is ended.1 le other above below

free_from : (key : ℕ) (shifts : List ShiftRange) (i : ℕ) (range : ShiftRange) → i < length shifts → range ≡ get_or shifts i range → IsShift shifts → AllByRecursion (λ range. range.end < key) (take i shifts) → (other : ℕ) → key ≤ other → other < range.begin → find (λ range. holds range other) shifts ≡ None
free_from key [] i range lt is h ended other above below = absurd (omega arith)
free_from key (x ∷ xs) zero range lt is h ended other above below =
    let before : other < x.begin = subst (λ (r : ShiftRange). other < r.begin) is below in
    find_none other (x ∷ xs) (before, every_weaker (λ next. x.end < next.begin) (λ next. other < next.begin) xs (λ next past. omega (arith, past, before, h.0)) h.2)
free_from key (x ∷ xs) (suc i) range lt is h ended other above below =
    find_past x xs other (holds_not_after x other (omega (arith, ended.0))) ∙ free_from key xs i range (omega arith) is h.3 ended.1 other above below

past_all : (key : ℕ) (shifts : List ShiftRange) (i : ℕ) → length shifts ≤ i → AllByRecursion (λ range. range.end < key) (take i shifts) → (other : ℕ) → key ≤ other → find (λ range. holds range other) shifts ≡ None
past_all key [] i le ended other above = refl
past_all key (x ∷ xs) zero le ended other above = absurd (omega arith)
past_all key (x ∷ xs) (suc i) le ended other above = find_past x xs other (holds_not_after x other (omega (arith, ended.0))) ∙ past_all key xs i (omega arith) ended.1 other above

every_at : {X : Type 0} (P : X → Type 0) (xs : List X) (i : ℕ) (x : X) → i < length xs → x ≡ get_or xs i x → AllByRecursion P xs → P x
every_at P xs i x lt is h = subst P (sym is) (all_from P xs h i x lt)

-- the segment that begins at a key, by where the search ends
module _ (shifts : List ShiftRange) (key i : ℕ) (h : IsShiftList shifts) (ended : AllByRecursion (λ range. range.end < key) (take i shifts)) where
  pub segment_held : (range : ShiftRange) → i < length shifts → range ≡ get_or shifts i range → AllByRecursion (λ range. key ≤ range.end) (drop i shifts) → range.begin ≤ key → let segment : Segment = record { last = range.end; delta = range.delta } in IsSegment (delta_at shifts) key segment
  segment_held range lt is others le = record {
    order = first_left (λ range. key ≤ range.end) shifts i range lt is others;
    small = (every_at (IsShiftRange (2 ^ 62)) shifts i range lt is h.small).end;
    same = λ other above below. ap (λ o. unwrap_or (option_map (λ (range : ShiftRange). range.delta) o) (pos 0)) (held_from key shifts i range lt is ended le other above below);
  }

  pub segment_free : (range : ShiftRange) → i < length shifts → range ≡ get_or shifts i range → key < range.begin → let segment : Segment = record { last = range.begin - 1; delta = pos 0 } in IsSegment (delta_at shifts) key segment
  segment_free range lt is before = record {
    order = omega arith;
    small = omega (arith, (every_at (IsShiftRange (2 ^ 62)) shifts i range lt is h.small).begin);
    same = λ other above below. ap (λ o. unwrap_or (option_map (λ (range : ShiftRange). range.delta) o) (pos 0)) (free_from key shifts i range lt is h.apart ended other above (omega arith));
  }

  pub segment_past : key < 2 ^ 62 → length shifts ≤ i → let segment : Segment = record { last = 2 ^ 62 - 1; delta = pos 0 } in IsSegment (delta_at shifts) key segment
  segment_past small le = record {
    order = omega arith;
    small = omega arith;
    same = λ other above below. ap (λ o. unwrap_or (option_map (λ (range : ShiftRange). range.delta) o) (pos 0)) (past_all key shifts i le ended other above);
  }

  pub held_small : (range : ShiftRange) → i < length shifts → range ≡ get_or shifts i range → IsShiftRange (2 ^ 62) range
  held_small range lt is = every_at (IsShiftRange (2 ^ 62)) shifts i range lt is h.small

-- the greatest key that is not above one
pub last_up : (high count position : ℕ) (keys : List ℕ) (o : Option ℕ) → IsRising keys → 1 ≤ count → position ≡ count - 1 → count ≡ count_below (high + 1) keys → o ≡ slice_get keys position → IfSome o (IsLastUpTo keys high)
last_up high count position keys None rising some at is e = tt
last_up high count position keys (Some last) rising some at is e =
    let there = last_below (high + 1) position last keys rising (omega arith) (sym e) in
    record {
      below = omega (arith, there.0);
      key = there.1;
      greatest = λ key among le. of_among (λ x. x < high + 1 → x ≤ last) key keys there.2 among (omega arith);
    }

pub key_small : (key : ℕ) (keys : List ℕ) → IsKeySet keys → is_among key keys ≡ true → key < 2 ^ 62
key_small key keys set among = of_among (λ key. key < 2 ^ 62) key keys set.small among

-- the part that begins with the first key from one on
pub part_made : (move : ℕ → ℤ) (keys : List ℕ) (from first : ℕ) (segment : Segment) (o : Option ℕ) (last : ℕ) → IsKeySet keys → find (leb from) keys ≡ Some first → IsSegment move first segment → IfSome o (IsLastUpTo keys segment.last) → last ≡ unwrap_or o first → let part : Part = record { first = first; last = last; delta = segment.delta } in IsPart move keys from part
part_made move keys from first segment None last set e s u is =
    let there = find_key (leb from) keys first e in
    record {
      above = leb-true from first there.1;
      order = omega arith;
      small = subst (λ k. k < 2 ^ 62) (sym is) (key_small first keys set there.0);
      first = there.0;
      last = subst (λ k. is_among k keys ≡ true) (sym is) there.0;
      none_before = none_between from first keys set.rising e;
      same = λ key above below. s.same key above (omega (arith, s.order));
    }
part_made move keys from first segment (Some other) last set e s u is =
    let there = find_key (leb from) keys first e in
    record {
      above = leb-true from first there.1;
      order = omega (arith, u.greatest first there.0 s.order);
      small = subst (λ k. k < 2 ^ 62) (sym is) (key_small other keys set u.key);
      first = there.0;
      last = subst (λ k. is_among k keys ≡ true) (sym is) u.key;
      none_before = none_between from first keys set.rising e;
      same = λ key above below. s.same key above (omega (arith, u.below));
    }
