-- Numbers in a row: which are among them, and what is left of them.
use Rattle.std.proofs.Common.{◌≡◌, refl, ap, ap₂, sym, ◌∙◌, subst, ℕ, zero, suc, ◌+◌, ◌-◌, ◌<◌, ◌≤◌, arith, Bool, true, false, cond, not, ◌||◌, List, [], ◌∷◌, ◌++◌, map}
use Rattle.std.{specs.Prelude.filter, specs.List.{AllByRecursion, range_with_len}, proofs.lemmas.Bool.{le-ltb, lt-ltb, ne_eqb}, proofs.lemmas.List.append-nil, proofs.lemmas.List.Elements.filter-append}
use Rattle.key_lists.{specs.Keys.{is_among, IsRising, without}, proofs.Every.{every_weaker, filter_none, filter_same, filter_all}, proofs.Ranges.{range-append, among_range, each_from}}
use Rattle.tick_laws.{specs.Checked.{put_key, put_keys}, proofs.LawfulSources.rising_range}

pub map_plus : (first start count : ℕ) → map (λ i. first + i) (range_with_len start count) ≡ range_with_len (first + start) count
map_plus first start zero = refl
map_plus first start (suc count) =
    let next : first + (start + 1) ≡ first + start + 1 = omega arith in
    ap (λ rest. (first + start) ∷ rest) (map_plus first (start + 1) count ∙ ap (λ k. range_with_len k count) next)

-- which numbers are among a row of them
pub not_among_row : (key first count : ℕ) → key < first → is_among key (range_with_len first count) ≡ false
not_among_row key first zero low = refl
not_among_row key first (suc count) low = ap (λ b. b || is_among key (range_with_len (first + 1) count)) (ne_eqb first key (λ e. omega (arith, low, e))) ∙ not_among_row key (first + 1) count (omega (arith, low))

pub among_none_before : (key first count : ℕ) → first + count ≤ key → is_among key (range_with_len first count) ≡ false
among_none_before key first zero high = refl
among_none_before key first (suc count) high = ap (λ b. b || is_among key (range_with_len (first + 1) count)) (ne_eqb first key (λ e. omega (arith, high, e))) ∙ among_none_before key (first + 1) count (omega (arith, high))

-- without the first of them, and without none
pub row_without : (m n : ℕ) → without (range_with_len 0 m) (range_with_len 0 (m + n)) ≡ range_with_len m n
row_without m n =
    ap (without (range_with_len 0 m)) (range-append 0 m n)
    ∙ filter-append test (range_with_len 0 m) (range_with_len (0 + m) n)
    ∙ ap₂ (λ xs ys. xs ++ ys)
    (filter_none test (range_with_len 0 m) (each_from (λ k. test k ≡ false) 0 m (λ k low high. ap not (among_range k 0 m low high))))
    (filter_same test (λ _. true) (range_with_len (0 + m) n) (each_from (λ k. test k ≡ true) (0 + m) n (λ k low high. ap not (among_none_before k 0 m low)))
    ∙ filter_all (range_with_len (0 + m) n) ∙ ap (λ k. range_with_len k n) zero_plus)
  where
    test : ℕ → Bool
    test k = not (is_among k (range_with_len 0 m))

    zero_plus : 0 + m ≡ m
    zero_plus = omega arith

pub without_none : (keys : List ℕ) → without [] keys ≡ keys
without_none keys = filter_all keys

-- a number put behind those below it, and a row of numbers put behind another
put_key_between : (key : ℕ) (before behind : List ℕ) → AllByRecursion (λ k. k < key) before → AllByRecursion (λ k. key < k) behind → put_key key (before ++ behind) ≡ before ++ key ∷ behind
put_key_between key [] [] below above = refl
put_key_between key [] (k ∷ behind) below above = ap (λ b. cond b (key ∷ k ∷ behind) (k ∷ put_key key behind)) (lt-ltb key k above.0)
put_key_between key (k ∷ before) behind below above =
    ap (λ b. cond b (key ∷ k ∷ (before ++ behind)) (k ∷ put_key key (before ++ behind))) (le-ltb key k (let less = below.0 in omega (arith, less)))
    ∙ ap (λ rest. k ∷ rest) (put_key_between key before behind below.1 above)

put_behind : (added keys : List ℕ) → IsRising added → AllByRecursion (λ key. AllByRecursion (λ k. k < key) keys) added → put_keys added keys ≡ keys ++ added
put_behind [] keys rise past = sym (append-nil keys)
put_behind (key ∷ added) keys rise past = ap (put_key key) (put_behind added keys rise.1 past.1) ∙ put_key_between key keys added past.0 rise.0

pub put_row : (m n : ℕ) → put_keys (range_with_len m n) (range_with_len 0 m) ≡ range_with_len 0 (m + n)
put_row m n =
    put_behind (range_with_len m n) (range_with_len 0 m) (rising_range m n).1
    (each_from (λ key. AllByRecursion (λ k. k < key) (range_with_len 0 m)) m n (λ key low high. each_from (λ k. k < key) 0 m (λ k least most. omega (arith, low, most))))
    ∙ ap (λ k. range_with_len 0 m ++ range_with_len k n) zero_plus ∙ sym (range-append 0 m n)
  where
    zero_plus : m ≡ 0 + m
    zero_plus = omega arith
