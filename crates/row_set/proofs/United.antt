-- The keys of two lists.
use Rattle.std.proofs.Common.{◌≡◌, refl, ap, sym, ◌∙◌, true, false, cond, ◌==◌, ◌||◌, ℕ, ◌+◌, ◌-◌, ◌<◌, ◌≤◌, arith, List, [], ◌∷◌, length, ltb, ltb-true, ltb-false, eqb-true}
use Rattle.std.{specs.List.{AllByRecursion, range_with_len}, proofs.lemmas.Bool.eqb-false as neq-from}
use Rattle.key_lists.{specs.Keys.{is_among, IsRising}, proofs.Every.every_weaker, proofs.Booleans.{or_assoc, or_swap, or_twice}}
use Rattle.row_set.{specs.Ranges.keys_from, specs.Sets.{with_key, united}}

pub among-with_key : (key other : ℕ) (keys : List ℕ) → is_among key (with_key other keys) ≡ ((other == key) || is_among key keys)
among-with_key key other [] = refl
among-with_key key other (first ∷ rest) =
    elim (ltb other first) as (λ b. is_among key (cond b (other ∷ first ∷ rest) (cond (other == first) (first ∷ rest) (first ∷ with_key other rest))) ≡ ((other == key) || ((first == key) || is_among key rest))) [
      | true ↦ refl
      | false ↦
          (elim (other == first) as (λ b. (other == first) ≡ b → is_among key (cond b (first ∷ rest) (first ∷ with_key other rest)) ≡ ((other == key) || ((first == key) || is_among key rest))) [
            | true ↦ λ e. sym (or_twice (first == key) (is_among key rest)) ∙ ap (λ k. (k == key) || ((first == key) || is_among key rest)) (sym (eqb-true other first e))
            | false ↦ λ e. ap (λ b. (first == key) || b) (among-with_key key other rest) ∙ or_swap (first == key) (other == key) (is_among key rest)
          ]) refl
    ]

pub among-united : (key : ℕ) (keys others : List ℕ) → is_among key (united keys others) ≡ (is_among key keys || is_among key others)
among-united key [] others = refl
among-united key (first ∷ rest) others =
    among-with_key key first (united rest others)
    ∙ ap (λ b. (first == key) || b) (among-united key rest others)
    ∙ or_assoc (first == key) (is_among key rest) (is_among key others)

every-with_key : (P : ℕ → Type 0) (key : ℕ) (keys : List ℕ) → P key → AllByRecursion P keys → AllByRecursion P (with_key key keys)
every-with_key P key [] p h = (p, tt)
every-with_key P key (first ∷ rest) p h =
    elim (ltb key first) as (λ b. AllByRecursion P (cond b (key ∷ first ∷ rest) (cond (key == first) (first ∷ rest) (first ∷ with_key key rest)))) [
      | true ↦ (p, h)
      | false ↦
          elim (key == first) as (λ b. AllByRecursion P (cond b (first ∷ rest) (first ∷ with_key key rest))) [
            | true ↦ h
            | false ↦ (h.0, every-with_key P key rest p h.1)
          ]
    ]

pub with_key_rises : (key : ℕ) (keys : List ℕ) → IsRising keys → IsRising (with_key key keys)
with_key_rises key [] h = (tt, tt)
with_key_rises key (first ∷ rest) h =
    (elim (ltb key first) as (λ b. ltb key first ≡ b → IsRising (cond b (key ∷ first ∷ rest) (cond (key == first) (first ∷ rest) (first ∷ with_key key rest)))) [
      | true ↦ λ e. ((ltb-true key first e, every_weaker (λ other. first < other) (λ other. key < other) rest (λ other above. omega (arith, above, ltb-true key first e)) h.0), h)
      | false ↦ λ e.
          (elim (key == first) as (λ b. (key == first) ≡ b → IsRising (cond b (first ∷ rest) (first ∷ with_key key rest))) [
            | true ↦ λ same. h
            | false ↦ λ other. (every-with_key (λ k. first < k) key rest (omega (arith, ltb-false key first e, neq-from key first other)) h.0, with_key_rises key rest h.1)
          ]) refl
    ]) refl

pub united_rises : (keys others : List ℕ) → IsRising others → IsRising (united keys others)
united_rises [] others h = h
united_rises (key ∷ keys) others h = with_key_rises key (united keys others) (united_rises keys others h)

pub every-united : (P : ℕ → Type 0) (keys others : List ℕ) → AllByRecursion P keys → AllByRecursion P others → AllByRecursion P (united keys others)
every-united P [] others h k = k
every-united P (key ∷ keys) others h k = every-with_key P key (united keys others) h.0 (every-united P keys others h.1 k)

length-with_key : (key : ℕ) (keys : List ℕ) → length (with_key key keys) ≤ 1 + length keys
length-with_key key [] = omega arith
length-with_key key (first ∷ rest) =
    elim (ltb key first) as (λ b. length (cond b (key ∷ first ∷ rest) (cond (key == first) (first ∷ rest) (first ∷ with_key key rest))) ≤ 1 + length (first ∷ rest)) [
      | true ↦ omega arith
      | false ↦ elim (key == first) as (λ b. length (cond b (first ∷ rest) (first ∷ with_key key rest)) ≤ 1 + length (first ∷ rest)) [ true ↦ omega arith | false ↦ omega (arith, length-with_key key rest) ]
    ]

pub length-united : (keys others : List ℕ) → length (united keys others) ≤ length keys + length others
length-united [] others = omega arith
length-united (key ∷ keys) others = omega (arith, length-with_key key (united keys others), length-united keys others)

-- the range of one key, and a set with one key more
pub one_key : (key : ℕ) → keys_from key key ≡ key ∷ []
one_key key = let one : key + 1 - key ≡ 1 = omega arith in ap (range_with_len key) one
