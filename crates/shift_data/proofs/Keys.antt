-- The keys of a rising list from one on, and from one to another.
use Rattle.std.proofs.Common.{◌≡◌, refl, ap, sym, ◌∙◌, Bool, true, false, cond, ◌&&◌, ◌||◌, ◌==◌, ℕ, zero, suc, ◌+◌, ◌<◌, ◌≤◌, arith, List, [], ◌∷◌, ◌++◌, length, leb, ltb, Some, None, true≢false, inl, inr}
use Rattle.std.{specs.Prelude.{filter, find, slice_get, IfSome}, specs.List.AllByRecursion, proofs.lemmas.Bool.{le-leb, lt-leb, leb-true, lt-ltb, le-ltb, eq-eqb, eqb-true, and_right, and_from, and_parts, or_cases, or_from, or_left, or_right, cases_lt}, proofs.lemmas.Option.{none-some, same_Some}}
use Rattle.key_lists.{specs.Keys.{is_among, IsRising}, proofs.Every.{every, every_weaker, filter_passes, filter_same, filter_all}, proofs.Among.{among_below, among_own, among_past, among-filter, among-append, of_among}, proofs.Rising.{rising_some, rising-append, rising_same}, proofs.Booleans.{or_false, and_false}}
use Rattle.row_set.{specs.Sets.count_below, proofs.Lookups.count_none}
use Rattle.shift_data.specs.Parts.{from_on, within}

-- what a search for the first key that passes a test says
pub find_none : (p : ℕ → Bool) (xs : List ℕ) → find p xs ≡ None → filter p xs ≡ []
find_none p [] e = refl
find_none p (x ∷ xs) e =
    (elim (p x) as (λ b. p x ≡ b → filter p (x ∷ xs) ≡ []) [
      | true ↦ λ t. absurd (none-some x (sym e ∙ ap (λ b. cond b (Some x) (find p xs)) t))
      | false ↦ λ t. ap (λ b. cond b (x ∷ filter p xs) (filter p xs)) t ∙ find_none p xs (sym (ap (λ b. cond b (Some x) (find p xs)) t) ∙ e)
    ]) refl

pub find_key : (p : ℕ → Bool) (xs : List ℕ) (key : ℕ) → find p xs ≡ Some key → (is_among key xs ≡ true) × (p key ≡ true)
find_key p [] key e = absurd (none-some key e)
find_key p (x ∷ xs) key e =
    (elim (p x) as (λ b. p x ≡ b → (is_among key (x ∷ xs) ≡ true) × (p key ≡ true)) [
      | true ↦ λ t. let same = same_Some x key (sym (ap (λ b. cond b (Some x) (find p xs)) t) ∙ e) in (or_left (x == key) (is_among key xs) (eq-eqb x key same), ap p (sym same) ∙ t)
      | false ↦ λ t. let rest = find_key p xs key (sym (ap (λ b. cond b (Some x) (find p xs)) t) ∙ e) in (or_right (x == key) (is_among key xs) rest.0, rest.1)
    ]) refl

-- what holds of each holds of the one that is found
pub found_is : (P : ℕ → Type 0) (p : ℕ → Bool) (xs : List ℕ) → AllByRecursion P xs → IfSome (find p xs) P
found_is P p [] h = tt
found_is P p (x ∷ xs) h = elim (p x) as (λ b. IfSome (cond b (Some x) (find p xs)) P) [ true ↦ h.0 | false ↦ found_is P p xs h.1 ]

-- no key before the first one from low on is among them
pub none_between : (low key : ℕ) (xs : List ℕ) → IsRising xs → find (leb low) xs ≡ Some key → (other : ℕ) → low ≤ other → other < key → is_among other xs ≡ false
none_between low key [] rising e other above below = refl
none_between low key (x ∷ xs) rising e other above below =
    elim (cases_lt x low) [
      | inl before ↦ among_past other x xs (omega arith) ∙ none_between low key xs rising.1 (sym (ap (λ b. cond b (Some x) (find (leb low) xs)) (lt-leb low x before)) ∙ e) other above below
      | inr past ↦
          let same : x ≡ key = same_Some x key (sym (ap (λ b. cond b (Some x) (find (leb low) xs)) (le-leb low x past)) ∙ e) in
          among_below other (x ∷ xs) (omega arith, every_weaker (λ y. x < y) (λ y. other < y) xs (λ y more. omega (arith, more)) rising.0)
    ]

pub cut : (keys : List ℕ) (from first last : ℕ) → IsRising keys → from ≤ first → first ≤ last → ((key : ℕ) → from ≤ key → key < first → is_among key keys ≡ false) → from_on from keys ≡ within first last keys ++ from_on (last + 1) keys
cut keys from first last rising le order none =
    rising_same (from_on from keys) (within first last keys ++ from_on (last + 1) keys) (rising_some (leb from) keys rising)
    (rising-append (last + 1) (within first last keys) (from_on (last + 1) keys)
    (every_weaker (λ key. (leb first key && leb key last) ≡ true) (λ key. key < last + 1) (within first last keys) (λ key t. omega (arith, leb-true key last (and_parts (leb first key) (leb key last) t).1)) (filter_passes (λ key. leb first key && leb key last) keys))
    (every_weaker (λ key. leb (last + 1) key ≡ true) (λ key. last + 1 ≤ key) (from_on (last + 1) keys) (λ key t. leb-true (last + 1) key t) (filter_passes (leb (last + 1)) keys))
    (rising_some (λ key. leb first key && leb key last) keys rising)
    (rising_some (leb (last + 1)) keys rising))
    (λ key.
    among-filter (leb from) key keys
    ∙ same key (is_among key keys) refl
    ∙ sym (among-append key (within first last keys) (from_on (last + 1) keys) ∙ ap (λ b. b || is_among key (from_on (last + 1) keys)) (among-filter (λ key. leb first key && leb key last) key keys) ∙ ap (λ b. ((leb first key && leb key last) && is_among key keys) || b) (among-filter (leb (last + 1)) key keys)))
  where
    both : (key : ℕ) (here : Bool) (a b c d : Bool) → leb from key ≡ a → leb first key ≡ b → leb key last ≡ c → leb (last + 1) key ≡ d → (a && here) ≡ (((b && c) && here) || (d && here)) → (leb from key && here) ≡ (((leb first key && leb key last) && here) || (leb (last + 1) key && here))
    both key here a b c d ea eb ec ed h = rw (ea, eb, ec, ed) h

    same : (key : ℕ) (here : Bool) → is_among key keys ≡ here → (leb from key && here) ≡ (((leb first key && leb key last) && here) || (leb (last + 1) key && here))
    same key here is =
        elim (cases_lt key first) [
          | inl before ↦
              elim (cases_lt key from) [
                | inl early ↦ both key here false false true false (lt-leb from key early) (lt-leb first key before) (le-leb key last (omega arith)) (lt-leb (last + 1) key (omega arith)) refl
                | inr late ↦ ap (λ b. leb from key && b) (sym is ∙ none key late before) ∙ and_false (leb from key) ∙ sym (or_from ((leb first key && leb key last) && here) (leb (last + 1) key && here) (and_right (leb first key && leb key last) here (sym is ∙ none key late before)) (and_right (leb (last + 1) key) here (sym is ∙ none key late before)))
              ]
          | inr inside ↦
              elim (cases_lt last key) [
                | inl past ↦ both key here true true false true (le-leb from key (omega arith)) (le-leb first key inside) (lt-leb key last past) (le-leb (last + 1) key (omega arith)) refl
                | inr until ↦ both key here true true true false (le-leb from key (omega arith)) (le-leb first key inside) (le-leb key last until) (lt-leb (last + 1) key (omega arith)) (sym (or_false here))
              ]
        ]

-- all keys, from 0 on; and none past the greatest
pub from_none : (keys : List ℕ) → from_on 0 keys ≡ keys
from_none keys = filter_same (leb 0) (λ _. true) keys (every (λ key. leb 0 key ≡ true) keys (λ key. le-leb 0 key (omega arith))) ∙ filter_all keys

-- the list begins with first and ends with last
abbrev pub Spans : ℕ → ℕ → List ℕ → Type 0
Spans first last [] = ⊥
Spans first last (x ∷ []) = (x ≡ first) × (x ≡ last)
Spans first last (x ∷ y ∷ xs) = (x ≡ first) × Spans y last (y ∷ xs)

pub spans : (first last : ℕ) (xs : List ℕ) → IsRising xs → AllByRecursion (λ x. first ≤ x) xs → AllByRecursion (λ x. x ≤ last) xs → is_among first xs ≡ true → is_among last xs ≡ true → Spans first last xs
spans first last [] rising above below a b = absurd (true≢false (sym a))
spans first last (x ∷ []) rising above below a b = (eqb-true x first (one a), eqb-true x last (one b))
  where
    one : {b : Bool} → (b || false) ≡ true → b ≡ true
    one {b} h = sym (or_false b) ∙ h
spans first last (x ∷ y ∷ xs) rising above below a b =
    (begins, spans y last (y ∷ xs) rising.1 (omega arith, every_weaker (λ z. y < z) (λ z. y ≤ z) xs (λ z more. omega (arith, more)) rising.1.0) below.1 (among_own y xs) ends)
  where
    begins : x ≡ first
    begins =
        elim (or_cases (x == first) (is_among first (y ∷ xs)) a) [
          | inl same ↦ eqb-true x first same
          | inr later ↦ absurd (omega (arith, of_among (λ z. x < z) first (y ∷ xs) rising.0 later, above.0))
        ]

    ends : is_among last (y ∷ xs) ≡ true
    ends =
        elim (or_cases (x == last) (is_among last (y ∷ xs)) b) [
          | inl same ↦ absurd (omega (arith, eqb-true x last same, rising.0.0, below.1.0))
          | inr later ↦ later
        ]

-- the keys from first to last, where both are keys
pub within_spans : (keys : List ℕ) (first last : ℕ) → IsRising keys → first ≤ last → is_among first keys ≡ true → is_among last keys ≡ true → Spans first last (within first last keys)
within_spans keys first last rising order a b =
    spans first last (within first last keys) (rising_some (λ key. leb first key && leb key last) keys rising)
    (every_weaker (λ key. (leb first key && leb key last) ≡ true) (λ key. first ≤ key) (within first last keys) (λ key t. leb-true first key (and_parts (leb first key) (leb key last) t).0) (filter_passes (λ key. leb first key && leb key last) keys))
    (every_weaker (λ key. (leb first key && leb key last) ≡ true) (λ key. key ≤ last) (within first last keys) (λ key t. leb-true key last (and_parts (leb first key) (leb key last) t).1) (filter_passes (λ key. leb first key && leb key last) keys))
    (among-filter (λ key. leb first key && leb key last) first keys ∙ and_from (leb first first && leb first last) (is_among first keys) (and_from (leb first first) (leb first last) (le-leb first first (omega arith)) (le-leb first last order)) a)
    (among-filter (λ key. leb first key && leb key last) last keys ∙ and_from (leb first last && leb last last) (is_among last keys) (and_from (leb first last) (leb last last) (le-leb first last order) (le-leb last last (omega arith))) b)

-- what holds of the numbers from first to last holds of the keys among them
pub each_within : (P : ℕ → Type 0) (keys : List ℕ) (first last : ℕ) → ((key : ℕ) → first ≤ key → key ≤ last → P key) → AllByRecursion P (within first last keys)
each_within P keys first last h =
    every_weaker (λ key. (leb first key && leb key last) ≡ true) P (within first last keys)
    (λ key t. h key (leb-true first key (and_parts (leb first key) (leb key last) t).0) (leb-true key last (and_parts (leb first key) (leb key last) t).1))
    (filter_passes (λ key. leb first key && leb key last) keys)

-- the last of the keys below one
counted : (bound x : ℕ) (xs : List ℕ) → x < bound → count_below bound (x ∷ xs) ≡ 1 + count_below bound xs
counted bound x xs less =
    let smaller : List ℕ = filter (λ other. ltb other bound) xs in
    let one : suc (length smaller) ≡ 1 + length smaller = omega arith in
    ap (λ b. length (cond b (x ∷ smaller) smaller)) (lt-ltb x bound less) ∙ one

not_counted : (bound x : ℕ) (xs : List ℕ) → bound ≤ x → count_below bound (x ∷ xs) ≡ 0 + count_below bound xs
not_counted bound x xs more =
    let smaller : List ℕ = filter (λ other. ltb other bound) xs in
    let none : length smaller ≡ 0 + length smaller = omega arith in
    ap (λ b. length (cond b (x ∷ smaller) smaller)) (le-ltb x bound more) ∙ none

none_counted : (bound last : ℕ) (xs : List ℕ) → count_below bound xs ≡ 0 → AllByRecursion (λ x. x < bound → x ≤ last) xs
none_counted bound last [] z = tt
none_counted bound last (x ∷ xs) z =
    elim (cases_lt x bound) [
      | inl less ↦ absurd (omega (arith, z, counted bound x xs less))
      | inr more ↦ ((λ less. absurd (omega arith)), none_counted bound last xs (omega (arith, z, not_counted bound x xs more)))
    ]

pub last_below : (bound count last : ℕ) (xs : List ℕ) → IsRising xs → suc count ≡ count_below bound xs → slice_get xs count ≡ Some last → (last < bound) × (is_among last xs ≡ true) × AllByRecursion (λ x. x < bound → x ≤ last) xs
last_below bound count last [] rising e g = absurd (none-some last g)
last_below bound zero last (x ∷ xs) rising e g =
    elim (cases_lt x bound) [
      | inl below ↦
          let same : x ≡ last = same_Some x last g in
          (omega arith, or_left (x == last) (is_among last xs) (eq-eqb x last same), ((λ _. omega arith), none_counted bound last xs (omega (arith, e, counted bound x xs below))))
      | inr above ↦ absurd (omega (arith, e, count_none bound (x ∷ xs) (above, every_weaker (λ y. x < y) (λ y. bound ≤ y) xs (λ y more. omega (arith, more)) rising.0)))
    ]
last_below bound (suc count) last (x ∷ xs) rising e g =
    elim (cases_lt x bound) [
      | inl below ↦
          let rest = last_below bound count last xs rising.1 (omega (arith, e, counted bound x xs below)) g in
          (rest.0, or_right (x == last) (is_among last xs) rest.1, ((λ _. omega (arith, of_among (λ y. x < y) last xs rising.0 rest.1)), rest.2))
      | inr above ↦ absurd (omega (arith, e, count_none bound (x ∷ xs) (above, every_weaker (λ y. x < y) (λ y. bound ≤ y) xs (λ y more. omega (arith, more)) rising.0)))
    ]

-- where no key is found from low on, none is there
pub none_from : (low : ℕ) (xs : List ℕ) → find (leb low) xs ≡ None → (key : ℕ) → low ≤ key → is_among key xs ≡ false
none_from low xs e key above =
    ap (λ b. b && is_among key xs) (sym (le-leb low key above)) ∙ sym (among-filter (leb low) key xs) ∙ ap (is_among key) (find_none (leb low) xs e)
