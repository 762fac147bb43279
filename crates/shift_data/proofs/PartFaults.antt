-- Where a shift breaks the order of keys, part by part.
use Rattle.std.proofs.Common.{◌≡◌, refl, ap, sym, ◌∙◌, Bool, true, false, cond, ◌&&◌, ℕ, ◌+◌, ◌<◌, ◌≤◌, arith, List, [], ◌∷◌, ◌++◌, leb, ltb, Some, None, Option, pos, negsuc, ℤ, ◌+ℤ◌, ◌-ℤ◌, inl, inr}
use Rattle.std.{specs.Prelude.{find, IfSome, int_le, ◌≤ℤ◌, option_map}, specs.Option.{option_or, is_some}, specs.List.AllByRecursion, proofs.lemmas.Bool.{cases_lt, le-leb, lt-leb, and_left, and_right, and_from, or_from, or_right, lt-ltb, le-ltb, leb-false, false_from_ne_true, false≢true}, proofs.lemmas.Int.ints}
use Rattle.key_lists.{specs.Keys.IsRising, proofs.Every.{every_weaker, filter_none}, proofs.Rising.rising_some}
use Rattle.row_set.specs.Sets.{IsKeySet}
use Rattle.tick_model.{specs.declared.update.ShiftRange.ShiftRange, specs.declared.update.UpdateFault.UpdateFault, specs.declared.update.UpdateFault.TheVariants.ShiftBreaks, specs.Shifts.{moved, delta_at, as_key}, specs.Rules.{is_past, shift_fault_after}}
use Rattle.shift_data.{proofs.Lawful.not_past, specs.declared.parts.Part.Part, specs.Parts.{from_on, within, IsPart}, specs.Faults.{breaks, past_fault, fault_in}, specs.declared.shifts.Broken.Broken, proofs.Keys.{Spans, cut, within_spans, each_within, found_is}}

abbrev pub own_fault : ℕ → UpdateFault
own_fault key = ShiftBreaks key key

-- keys that move by one delta rise, so only one that moves past the limit can break their order
not_back : (key other : ℕ) (delta : ℤ) → key < other → int_le (pos other +ℤ delta) (pos key +ℤ delta) ≡ false
not_back key other delta less = false_from_ne_true (int_le (pos other +ℤ delta) (pos key +ℤ delta)) (λ e. grind (arith, ints))

module _ (limit : ℕ) (shifts : List ShiftRange) (delta : ℤ) (rest : List ℕ) where
  abbrev past : ℕ → Bool
  past key = is_past limit (pos key +ℤ delta)

  run : (before last : ℕ) (xs : List ℕ) → moved shifts before ≡ pos before +ℤ delta → AllByRecursion (λ key. moved shifts key ≡ pos key +ℤ delta) xs → IsRising (before ∷ xs) → Spans before last (before ∷ xs) → shift_fault_after limit shifts (Some before) (xs ++ rest) ≡ option_or (option_map own_fault (find past xs)) (shift_fault_after limit shifts (Some last) rest)
  run before last [] is same rising spans = ap (λ key. shift_fault_after limit shifts (Some key) rest) spans.1
  run before last (x ∷ xs) is same rising spans =
      ap (λ t. cond t (Some (ShiftBreaks x x)) (cond (int_le (moved shifts x) (moved shifts before)) (Some (ShiftBreaks before x)) (shift_fault_after limit shifts (Some x) (xs ++ rest)))) (ap (is_past limit) same.0)
      ∙ ap (λ t. cond (past x) (Some (ShiftBreaks x x)) (cond t (Some (ShiftBreaks before x)) (shift_fault_after limit shifts (Some x) (xs ++ rest)))) (ap (λ z. int_le z (moved shifts before)) same.0 ∙ ap (int_le (pos x +ℤ delta)) is ∙ not_back before x delta rising.0.0)
      ∙ ap (λ f. cond (past x) (Some (ShiftBreaks x x)) f) (run x last xs same.0 same.1 rising.1 spans.1)
      ∙ join (past x)
    where
      join : (b : Bool) → cond b (Some (ShiftBreaks x x)) (option_or (option_map own_fault (find past xs)) (shift_fault_after limit shifts (Some last) rest)) ≡ option_or (option_map own_fault (cond b (Some x) (find past xs))) (shift_fault_after limit shifts (Some last) rest)
      join true = refl
      join false = refl

  -- where nothing is before the part
  first_part : (first last : ℕ) (xs : List ℕ) → AllByRecursion (λ key. moved shifts key ≡ pos key +ℤ delta) xs → IsRising xs → Spans first last xs → shift_fault_after limit shifts None (xs ++ rest) ≡ option_or (cond (past first) (Some (ShiftBreaks first first)) (option_map own_fault (find past xs))) (shift_fault_after limit shifts (Some last) rest)
  first_part first last [] same rising spans = absurd spans
  first_part first last (x ∷ xs) same rising spans =
      ap (λ t. cond t (Some (ShiftBreaks x x)) (shift_fault_after limit shifts (Some x) (xs ++ rest))) (ap (is_past limit) same.0)
      ∙ ap (λ f. cond (past x) (Some (ShiftBreaks x x)) f) (run x last xs same.0 same.1 rising (own x xs spans))
      ∙ join (past x)
      ∙ ap (λ key. option_or (cond (past key) (Some (ShiftBreaks key key)) (option_map own_fault (find past (x ∷ xs)))) (shift_fault_after limit shifts (Some last) rest)) (begin x xs spans)
    where
      begin : (x : ℕ) (xs : List ℕ) → Spans first last (x ∷ xs) → x ≡ first
      begin x [] h = h.0
      begin x (y ∷ xs) h = h.0

      own : (x : ℕ) (xs : List ℕ) → Spans first last (x ∷ xs) → Spans x last (x ∷ xs)
      own x [] h = (refl, h.1)
      own x (y ∷ xs) h = (refl, h.1)

      join : (b : Bool) → cond b (Some (ShiftBreaks x x)) (option_or (option_map own_fault (find past xs)) (shift_fault_after limit shifts (Some last) rest)) ≡ option_or (cond b (Some (ShiftBreaks x x)) (option_map own_fault (cond b (Some x) (find past xs)))) (shift_fault_after limit shifts (Some last) rest)
      join true = refl
      join false = refl

  -- where a key is before it, whose place is known
  next_part : (before : ℕ) (before_place : ℤ) (first last : ℕ) (xs : List ℕ) → moved shifts before ≡ before_place → AllByRecursion (λ key. moved shifts key ≡ pos key +ℤ delta) xs → IsRising xs → Spans first last xs → shift_fault_after limit shifts (Some before) (xs ++ rest) ≡ option_or (cond (past first) (Some (ShiftBreaks first first)) (option_or (cond (int_le (pos first +ℤ delta) before_place) (Some (ShiftBreaks before first)) None) (option_map own_fault (find past xs)))) (shift_fault_after limit shifts (Some last) rest)
  next_part before before_place first last [] is same rising spans = absurd spans
  next_part before before_place first last (x ∷ xs) is same rising spans =
      ap (λ t. cond t (Some (ShiftBreaks x x)) (cond (int_le (moved shifts x) (moved shifts before)) (Some (ShiftBreaks before x)) (shift_fault_after limit shifts (Some x) (xs ++ rest)))) (ap (is_past limit) same.0)
      ∙ ap (λ t. cond (past x) (Some (ShiftBreaks x x)) (cond t (Some (ShiftBreaks before x)) (shift_fault_after limit shifts (Some x) (xs ++ rest)))) (ap (λ z. int_le z (moved shifts before)) same.0 ∙ ap (int_le (pos x +ℤ delta)) is)
      ∙ ap (λ f. cond (past x) (Some (ShiftBreaks x x)) (cond (int_le (pos x +ℤ delta) before_place) (Some (ShiftBreaks before x)) f)) (run x last xs same.0 same.1 rising (own x xs spans))
      ∙ join (past x) (int_le (pos x +ℤ delta) before_place)
      ∙ ap (λ key. option_or (cond (past key) (Some (ShiftBreaks key key)) (option_or (cond (int_le (pos key +ℤ delta) before_place) (Some (ShiftBreaks before key)) None) (option_map own_fault (find past (x ∷ xs))))) (shift_fault_after limit shifts (Some last) rest)) (begin x xs spans)
    where
      begin : (x : ℕ) (xs : List ℕ) → Spans first last (x ∷ xs) → x ≡ first
      begin x [] h = h.0
      begin x (y ∷ xs) h = h.0

      own : (x : ℕ) (xs : List ℕ) → Spans first last (x ∷ xs) → Spans x last (x ∷ xs)
      own x [] h = (refl, h.1)
      own x (y ∷ xs) h = (refl, h.1)

      join : (b t : Bool) → cond b (Some (ShiftBreaks x x)) (cond t (Some (ShiftBreaks before x)) (option_or (option_map own_fault (find past xs)) (shift_fault_after limit shifts (Some last) rest))) ≡ option_or (cond b (Some (ShiftBreaks x x)) (option_or (cond t (Some (ShiftBreaks before x)) None) (option_map own_fault (cond b (Some x) (find past xs))))) (shift_fault_after limit shifts (Some last) rest)
      join true t = refl
      join false true = refl
      join false false = refl

-- what the part shows, and what the keys behind it show
abbrev pub last_of : Option Part → Option ℕ
last_of = option_map (λ part. part.last)

pub faults : (limit : ℕ) (shifts : List ShiftRange) (keys : List ℕ) (from : ℕ) (before : Option Part) (part : Part) → IsKeySet keys → IsPart (delta_at shifts) keys from part → IfSome before (λ other. delta_at shifts other.last ≡ other.delta) → shift_fault_after limit shifts (last_of before) (from_on from keys) ≡ option_or (fault_in limit before part keys) (shift_fault_after limit shifts (Some part.last) (from_on (part.last + 1) keys))
faults limit shifts keys from before part set h is =
    ap (shift_fault_after limit shifts (last_of before)) (cut keys from part.first part.last set.rising h.above h.order h.none_before)
    ∙ go before is
  where
    same : AllByRecursion (λ key. moved shifts key ≡ pos key +ℤ part.delta) (within part.first part.last keys)
    same = each_within (λ key. moved shifts key ≡ pos key +ℤ part.delta) keys part.first part.last (λ key above below. ap (λ d. pos key +ℤ d) (h.same key above below))

    rising : IsRising (within part.first part.last keys)
    rising = rising_some (λ key. leb part.first key && leb key part.last) keys set.rising

    spans : Spans part.first part.last (within part.first part.last keys)
    spans = within_spans keys part.first part.last set.rising h.order h.first h.last

    go : (before : Option Part) → IfSome before (λ other. delta_at shifts other.last ≡ other.delta) → shift_fault_after limit shifts (last_of before) (within part.first part.last keys ++ from_on (part.last + 1) keys) ≡ option_or (fault_in limit before part keys) (shift_fault_after limit shifts (Some part.last) (from_on (part.last + 1) keys))
    go None is = first_part limit shifts part.delta (from_on (part.last + 1) keys) part.first part.last (within part.first part.last keys) same rising spans
    go (Some other) is = next_part limit shifts part.delta (from_on (part.last + 1) keys) other.last (pos other.last +ℤ other.delta) part.first part.last (within part.first part.last keys) (ap (λ d. pos other.last +ℤ d) is) same rising spans

-- the first key of a part that moves past the limit, by a search in all keys
past_by : (limit bound key : ℕ) (place : ℤ) → pos 0 ≤ℤ place → place +ℤ pos bound ≡ pos limit +ℤ pos key → is_past limit place ≡ leb bound key
past_by limit bound key (pos n) low is =
    elim (cases_lt n limit) [
      | inl less ↦ or_from (ltb n 0) (leb limit n) (le-ltb n 0 (omega arith)) (lt-leb limit n less) ∙ sym (lt-leb bound key (omega (arith, ints, is)))
      | inr more ↦ or_right (ltb n 0) (leb limit n) (le-leb limit n more) ∙ sym (le-leb bound key (omega (arith, ints, is)))
    ]
past_by limit bound key (negsuc n) low is = absurd (omega (arith, ints, low))

past_reached : (limit bound first key : ℕ) (delta : ℤ) → pos bound ≡ pos limit -ℤ delta → is_past limit (pos first +ℤ delta) ≡ false → first ≤ key → is_past limit (pos key +ℤ delta) ≡ leb bound key
past_reached limit bound first key delta at inside above =
    let there : pos first +ℤ delta ≡ pos (as_key (pos first +ℤ delta)) = (not_past limit (pos first +ℤ delta) inside).0 in
    past_by limit bound key (pos key +ℤ delta) (omega (arith, ints, there)) (omega (arith, ints, at))

-- a bound that is reached only past the first key
bound_past : (limit bound first : ℕ) (delta : ℤ) → pos bound ≡ pos limit -ℤ delta → is_past limit (pos first +ℤ delta) ≡ false → first < bound
bound_past limit bound first delta at inside = leb-false bound first (sym (past_reached limit bound first first delta at inside (omega arith)) ∙ inside)

abbrev pub up_to : ℕ → Option ℕ → Option ℕ
up_to last None = None
up_to last (Some key) = cond (ltb last key) None (Some key)

search_within : (p : ℕ → Bool) (bound first last : ℕ) (keys : List ℕ) → first < bound → ((key : ℕ) → first ≤ key → p key ≡ leb bound key) → IsRising keys → find p (within first last keys) ≡ up_to last (find (leb bound) keys)
search_within p bound first last [] before same rising = refl
search_within p bound first last (x ∷ xs) before same rising =
    elim (cases_lt x first) [
      | inl early ↦
          ap (λ t. find p (cond t (x ∷ within first last xs) (within first last xs))) (and_left (leb first x) (leb x last) (lt-leb first x early))
          ∙ search_within p bound first last xs before same rising.1
          ∙ sym (ap (λ t. up_to last (cond t (Some x) (find (leb bound) xs))) (lt-leb bound x (omega arith)))
      | inr late ↦
          elim (cases_lt last x) [
            | inl past ↦
                ap (find p) (filter_none (λ key. leb first key && leb key last) (x ∷ xs) (past_all x past, every_weaker (λ y. x < y) (λ y. (leb first y && leb y last) ≡ false) xs (λ y more. past_all y (omega arith)) rising.0))
                ∙ sym (none_up_to (find (leb bound) (x ∷ xs)) (found_is (λ key. last < key) (leb bound) (x ∷ xs) (past, every_weaker (λ y. x < y) (λ y. last < y) xs (λ y more. omega arith) rising.0)))
            | inr inside ↦
                ap (λ t. find p (cond t (x ∷ within first last xs) (within first last xs))) (and_from (leb first x) (leb x last) (le-leb first x late) (le-leb x last inside))
                ∙ ap (λ t. cond t (Some x) (find p (within first last xs))) (same x late)
                ∙ ap (λ f. cond (leb bound x) (Some x) f) (search_within p bound first last xs before same rising.1)
                ∙ join x xs inside (leb bound x)
          ]
    ]
  where
    past_all : (y : ℕ) → last < y → (leb first y && leb y last) ≡ false
    past_all y more = and_right (leb first y) (leb y last) (lt-leb y last more)

    none_up_to : (o : Option ℕ) → IfSome o (λ key. last < key) → up_to last o ≡ None
    none_up_to None h = refl
    none_up_to (Some key) h = ap (λ t. cond t None (Some key)) (lt-ltb last key h)

    join : (x : ℕ) (xs : List ℕ) → x ≤ last → (b : Bool) → cond b (Some x) (up_to last (find (leb bound) xs)) ≡ up_to last (cond b (Some x) (find (leb bound) xs))
    join x xs inside true = sym (ap (λ t. cond t None (Some x)) (le-ltb last x inside))
    join x xs inside false = refl

pub past_found : (limit bound : ℕ) (part : Part) (keys : List ℕ) → pos bound ≡ pos limit -ℤ part.delta → is_past limit (pos part.first +ℤ part.delta) ≡ false → IsRising keys → past_fault limit part keys ≡ option_map own_fault (up_to part.last (find (leb bound) keys))
past_found limit bound part keys at inside rising =
    ap (option_map own_fault) (search_within (λ key. is_past limit (pos key +ℤ part.delta)) bound part.first part.last keys (bound_past limit bound part.first part.delta at inside) (λ key above. past_reached limit bound part.first key part.delta at inside above) rising)

-- what a part shows is what all keys show, and where it shows nothing the keys behind it show it
pub shown : (o : Option Broken) (fault others whole : Option UpdateFault) → is_some o ≡ true → option_map breaks o ≡ fault → whole ≡ option_or fault others → option_map breaks o ≡ whole
shown None fault others whole some e h = absurd (false≢true some)
shown (Some broken) fault others whole some e h = sym (h ∙ ap (λ f. option_or f others) (sym e))

pub not_shown : (o : Option Broken) (fault others whole : Option UpdateFault) → is_some o ≡ false → option_map breaks o ≡ fault → whole ≡ option_or fault others → others ≡ whole
not_shown None fault others whole none e h = sym (h ∙ ap (λ f. option_or f others) (sym e))
not_shown (Some broken) fault others whole none e h = absurd (false≢true (sym none))
