-- The keys at neighbouring positions of a rising list.
use Rattle.std.proofs.Common.{◌≡◌, ap, sym, ◌∙◌, subst, Bool, true, false, ◌&&◌, ◌||◌, ℕ, zero, suc, ◌+◌, ◌-◌, ◌<◌, ◌≤◌, min, arith, List, [], ◌∷◌, ◌++◌, length, take, drop, slice_get, take-append-drop, take_all, length-drop, Some, inl, inr}
use Rattle.std.{specs.List.AllByRecursion, proofs.lemmas.Bool.{cases_Bool, cases_lt}, proofs.lemmas.List.{drop-take, drop-drop, drop_all}, proofs.lemmas.Option.same_Some}
use Rattle.key_lists.{specs.Keys.{is_among, IsRising}, proofs.Every.{every_weaker, every-append}, proofs.Among.{among-append, among-filter, of_among}, proofs.Rising.{rising_same, rising_some}, proofs.Booleans.{or_false, and_true, and_false}, proofs.Parts.{every-take, every-drop, every_front, every_back, take_nil}}
use Rattle.row_set.{specs.Ranges.{keys_from, holds}, specs.Sets.{united, common}, proofs.Held.{among-in, holds-true, holds_before, holds_after}, proofs.Middles.span, proofs.United.{among-united, united_rises}}

drop_get : (n x : ℕ) (xs : List ℕ) → slice_get xs n ≡ Some x → drop n xs ≡ x ∷ drop (suc n) xs
drop_get zero x [] e = cc
drop_get zero x (y ∷ xs) e = let same : y ≡ x = cc in ap (λ z. z ∷ xs) same
drop_get (suc n) x [] e = cc
drop_get (suc n) x (y ∷ xs) e = drop_get n x xs e

cut_get : (n x : ℕ) (xs : List ℕ) → slice_get xs n ≡ Some x → take n xs ++ x ∷ drop (suc n) xs ≡ xs
cut_get n x xs e = ap (λ rest. take n xs ++ rest) (sym (drop_get n x xs e)) ∙ take-append-drop n xs

-- the parts of a rising list
pub rising_front : (xs ys : List ℕ) → IsRising (xs ++ ys) → IsRising xs
rising_front [] ys h = tt
rising_front (x ∷ xs) ys h = (every_front (λ z. x < z) xs ys h.0, rising_front xs ys h.1)

pub rising_back : (xs ys : List ℕ) → IsRising (xs ++ ys) → IsRising ys
rising_back [] ys h = h
rising_back (x ∷ xs) ys h = rising_back xs ys h.1

pub rising_before : (xs : List ℕ) (y : ℕ) (ys : List ℕ) → IsRising (xs ++ y ∷ ys) → AllByRecursion (λ x. x < y) xs
rising_before [] y ys h = tt
rising_before (x ∷ xs) y ys h = ((every_back (λ z. x < z) xs (y ∷ ys) h.0).0, rising_before xs y ys h.1)

pub rising_left_out : (xs : List ℕ) (y : ℕ) (ys : List ℕ) → IsRising (xs ++ y ∷ ys) → IsRising (xs ++ ys)
rising_left_out [] y ys h = h.1
rising_left_out (x ∷ xs) y ys h =
    let rest = every_back (λ z. x < z) xs (y ∷ ys) h.0 in
    (every-append (λ z. x < z) xs ys (every_front (λ z. x < z) xs (y ∷ ys) h.0) rest.1, rising_left_out xs y ys h.1)

pub rising-drop : (n : ℕ) (xs : List ℕ) → IsRising xs → IsRising (drop n xs)
rising-drop n xs h = rising_back (take n xs) (drop n xs) (subst IsRising (sym (take-append-drop n xs)) h)

pub rising-take : (n : ℕ) (xs : List ℕ) → IsRising xs → IsRising (take n xs)
rising-take n xs h = rising_front (take n xs) (drop n xs) (subst IsRising (sym (take-append-drop n xs)) h)

not_among : (P : ℕ → Type 0) (key : ℕ) (xs : List ℕ) → AllByRecursion P xs → (P key → ⊥) → is_among key xs ≡ false
not_among P key xs h never = elim (cases_Bool (is_among key xs)) [ inl found ↦ absurd (never (of_among P key xs h found)) | inr none ↦ none ]

three : (a m z : Bool) → a ≡ false → z ≡ false → m ≡ (a || (m || z))
three a true z e f = sym (ap (λ b. b || (true || z)) e)
three a false z e f = sym f ∙ sym (ap (λ b. b || (false || z)) e)

upto_get : (n high : ℕ) (xs : List ℕ) → slice_get xs n ≡ Some high → AllByRecursion (λ k. k ≤ high) (take n xs) → AllByRecursion (λ k. k ≤ high) (take (suc n) xs)
upto_get zero high [] e h = tt
upto_get zero high (y ∷ xs) e h = let same : y ≡ high = cc in (omega (arith, same), tt)
upto_get (suc n) high [] e h = tt
upto_get (suc n) high (y ∷ xs) e h = (h.0, upto_get n high xs e h.1)

-- the keys from the low one to the high one, where these stand at positions
window_is : (first last low high : ℕ) (keys : List ℕ) → IsRising keys → first ≤ last → slice_get keys first ≡ Some low → slice_get keys last ≡ Some high → take (suc last - first) (drop first keys) ≡ common (united (keys_from low high) []) keys
window_is first last low high keys rising le at_first at_last =
    let size : suc last - first ≡ suc (last - first) = omega arith in
    let whole : first + (suc last - first) ≡ suc last = omega arith in
    let window = take (suc last - first) (drop first keys) in
    let back : IsRising (take first keys ++ low ∷ drop (suc first) keys) = subst IsRising (sym (cut_get first low keys at_first)) rising in
    let front : IsRising (take last keys ++ high ∷ drop (suc last) keys) = subst IsRising (sym (cut_get last high keys at_last)) rising in
    let lesser : AllByRecursion (λ key. key < low) (take first keys) = rising_before (take first keys) low (drop (suc first) keys) back in
    let greater : AllByRecursion (λ key. high < key) (drop (suc last) keys) = (rising_back (take last keys) (high ∷ drop (suc last) keys) front).0 in
    let from_low : AllByRecursion (λ key. low ≤ key) (drop first keys) =
    subst (λ those. AllByRecursion (λ key. low ≤ key) those) (sym (drop_get first low keys at_first))
    (omega arith, every_weaker (λ key. low < key) (λ key. low ≤ key) (drop (suc first) keys) (λ key lt. omega (arith, lt)) (rising_back (take first keys) (low ∷ drop (suc first) keys) back).0) in
    let to_high : AllByRecursion (λ key. key ≤ high) (take (suc last) keys) = upto_get last high keys at_last (every_weaker (λ key. key < high) (λ key. key ≤ high) (take last keys) (λ key lt. omega (arith, lt)) (rising_before (take last keys) high (drop (suc last) keys) front)) in
    let lows : AllByRecursion (λ key. low ≤ key) window = every-take (λ key. low ≤ key) (suc last - first) (drop first keys) from_low in
    let highs : AllByRecursion (λ key. key ≤ high) window =
    subst (λ those. AllByRecursion (λ key. key ≤ high) those) (ap (λ n. drop first (take n keys)) (sym whole) ∙ drop-take first (suc last - first) keys)
    (every-drop (λ key. key ≤ high) first (take (suc last) keys) to_high) in
    let parts : take first keys ++ (window ++ drop (suc last) keys) ≡ keys =
    ap (λ n. take first keys ++ (window ++ drop n keys)) (sym whole)
    ∙ ap (λ rest. take first keys ++ (window ++ rest)) (sym (drop-drop (suc last - first) first keys))
    ∙ ap (λ rest. take first keys ++ rest) (take-append-drop (suc last - first) (drop first keys))
    ∙ take-append-drop first keys in
    let rises : IsRising (common (united (keys_from low high) []) keys) = rising_some (λ key. is_among key keys) (united (keys_from low high) []) (united_rises (keys_from low high) [] tt) in
    rising_same window (common (united (keys_from low high) []) keys) (rising-take (suc last - first) (drop first keys) (rising-drop first keys rising)) rises
    (λ key.
    let all : is_among key keys ≡ (is_among key (take first keys) || (is_among key window || is_among key (drop (suc last) keys))) =
    ap (is_among key) (sym parts) ∙ among-append key (take first keys) (window ++ drop (suc last) keys) ∙ ap (λ b. is_among key (take first keys) || b) (among-append key window (drop (suc last) keys)) in
    let right : is_among key (common (united (keys_from low high) []) keys) ≡ (is_among key keys && holds key (span low high)) =
    among-filter (λ k. is_among k keys) key (united (keys_from low high) []) ∙ ap (λ b. is_among key keys && b) (among-united key (keys_from low high) [] ∙ or_false (is_among key (keys_from low high)) ∙ among-in key (span low high)) in
    elim (cases_lt key low) [
      | inl before ↦ not_among (λ k. low ≤ k) key window lows (λ k. omega (arith, k, before)) ∙ sym (right ∙ ap (λ b. is_among key keys && b) (holds_before key (span low high) before) ∙ and_false (is_among key keys))
      | inr from ↦
          elim (cases_lt high key) [
            | inl after ↦ not_among (λ k. k ≤ high) key window highs (λ k. omega (arith, k, after)) ∙ sym (right ∙ ap (λ b. is_among key keys && b) (holds_after key (span low high) after) ∙ and_false (is_among key keys))
            | inr to ↦
                three (is_among key (take first keys)) (is_among key window) (is_among key (drop (suc last) keys))
                (not_among (λ k. k < low) key (take first keys) lesser (λ k. omega (arith, k, from)))
                (not_among (λ k. high < k) key (drop (suc last) keys) greater (λ k. omega (arith, k, to)))
                ∙ sym (right ∙ ap (λ b. is_among key keys && b) (holds-true key (span low high) from to) ∙ and_true (is_among key keys) ∙ all)
          ]
    ])

-- at most count keys from the first position on, where end is past the last of them
pub window_at : (first count end low high : ℕ) (keys : List ℕ) → IsRising keys → end ≡ min (first + count) (length keys) → first < end → slice_get keys first ≡ Some low → slice_get keys (end - 1) ≡ Some high → take count (drop first keys) ≡ common (united (keys_from low high) []) keys
window_at first count end low high keys rising is lt at_first at_last =
    let size : suc (end - 1) - first ≡ end - first = omega arith in
    elim (cases_lt (length keys) (first + count)) [
      | inl short ↦
          let rest : length (drop first keys) ≡ end - first = omega (arith, length-drop first keys, is) in
          take_all count (drop first keys) (omega (arith, rest, is))
          ∙ sym (take_all (end - first) (drop first keys) (omega (arith, rest)))
          ∙ ap (λ n. take n (drop first keys)) (sym size)
          ∙ window_is first (end - 1) low high keys rising (omega arith) at_first at_last
      | inr long ↦
          let same : count ≡ suc (end - 1) - first = omega (arith, is) in
          ap (λ n. take n (drop first keys)) same ∙ window_is first (end - 1) low high keys rising (omega arith) at_first at_last
    ]

pub window_none : (first count end : ℕ) (keys : List ℕ) → end ≡ min (first + count) (length keys) → end ≤ first → take count (drop first keys) ≡ []
window_none first count end keys is le =
    elim (cases_lt first (length keys)) [
      | inl within ↦ let none : count ≡ 0 = omega (arith, is) in ap (λ n. take n (drop first keys)) none
      | inr past ↦ ap (take count) (drop_all first keys past) ∙ take_nil count
    ]

pub low_to_high : (first last low high : ℕ) (keys : List ℕ) → IsRising keys → first ≤ last → slice_get keys first ≡ Some low → slice_get keys last ≡ Some high → low ≤ high
low_to_high first last low high keys rising le at_first at_last =
    elim (cases_lt first last) [
      | inl lt ↦
          let back : IsRising (low ∷ drop (suc first) keys) = subst IsRising (drop_get first low keys at_first) (rising-drop first keys rising) in
          let there : slice_get (drop (suc first) keys) (last - suc first) ≡ Some high = get_drop (suc first) last high keys lt at_last in
          omega (arith, at (λ key. low < key) (last - suc first) high (drop (suc first) keys) there back.0)
      | inr same ↦
          let one : first ≡ last = omega arith in
          let equal : low ≡ high = same_Some low high (sym at_first ∙ ap (slice_get keys) one ∙ at_last) in
          omega (arith, equal)
    ]
  where
    at : (P : ℕ → Type 0) (n x : ℕ) (xs : List ℕ) → slice_get xs n ≡ Some x → AllByRecursion P xs → P x
    at P zero x [] e h = cc
    at P zero x (y ∷ xs) e h = subst P (same_Some y x e) h.0
    at P (suc n) x [] e h = cc
    at P (suc n) x (y ∷ xs) e h = at P n x xs e h.1

    get_drop : (n m x : ℕ) (xs : List ℕ) → n ≤ m → slice_get xs m ≡ Some x → slice_get (drop n xs) (m - n) ≡ Some x
    get_drop zero m x xs le e = let same : m - 0 ≡ m = omega arith in ap (slice_get xs) same ∙ e
    get_drop (suc n) m x [] le e = cc
    get_drop (suc n) zero x (y ∷ xs) le e = absurd (omega arith)
    get_drop (suc n) (suc m) x (y ∷ xs) le e = let same : suc m - suc n ≡ m - n = omega arith in ap (slice_get (drop n xs)) same ∙ get_drop n m x xs (omega arith) e

pub get_small : (bound n x : ℕ) (keys : List ℕ) → AllByRecursion (λ key. key < bound) keys → slice_get keys n ≡ Some x → x < bound
get_small bound zero x [] h e = cc
get_small bound zero x (y ∷ xs) h e = let same : y ≡ x = cc in subst (λ key. key < bound) same h.0
get_small bound (suc n) x [] h e = cc
get_small bound (suc n) x (y ∷ xs) h e = get_small bound n x xs h.1 e
