-- The longest ranges of the keys of ranges that are apart are these ranges, and the keys of the longest ranges of a set
-- of keys are this set.
use Rattle.std.proofs.Common.{◌≡◌, refl, ap, sym, ◌∙◌, subst, cond, ℕ, zero, suc, ◌+◌, ◌-◌, ◌^◌, ◌<◌, ◌≤◌, arith, List, [], ◌∷◌, ◌++◌, eq-eqb, ne_eqb, inl, inr}
use Rattle.std.{specs.List.{AllByRecursion, range_with_len}, proofs.lemmas.Bool.cases_eq}
use Rattle.key_lists.{specs.Keys.IsRising, proofs.Every.{every, every_weaker}}
use Rattle.row_set.{specs.declared.ranges.Range.Range, specs.Ranges.{keys_of, ranges_of, preceded, AreApart}, specs.Sets.IsKeySet, proofs.Apart.apart_weaker}

abbrev span : ℕ → ℕ → Range
span first last = record { first = first; last = last }

alone : (key : ℕ) (ranges : List Range) → AreApart (key + 2) ranges → preceded key ranges ≡ span key key ∷ ranges
alone key [] h = refl
alone key (range ∷ ranges) h =
    ap (λ b. cond b (span key range.last ∷ ranges) (span key key ∷ range ∷ ranges)) (ne_eqb (key + 1) range.first (λ e. omega (arith, h.0.above)))

touching : (key last : ℕ) (ranges : List Range) → preceded key (span (key + 1) last ∷ ranges) ≡ span key last ∷ ranges
touching key last ranges = ap (λ b. cond b (span key last ∷ ranges) (span key key ∷ span (key + 1) last ∷ ranges)) (eq-eqb (key + 1) (key + 1) refl)

one_range : (first count last : ℕ) (keys : List ℕ) (ranges : List Range) → first + count ≡ last → AreApart (last + 2) ranges → ranges_of keys ≡ ranges → ranges_of (range_with_len first (suc count) ++ keys) ≡ span first last ∷ ranges
one_range first zero last keys ranges e h same =
    let here : first ≡ last = omega arith in
    ap (preceded first) same ∙ alone first ranges (subst (λ key. AreApart (key + 2) ranges) (sym here) h) ∙ ap (λ key. span first key ∷ ranges) here
one_range first (suc count) last keys ranges e h same =
    ap (preceded first) (one_range (first + 1) count last keys ranges (omega arith) h same) ∙ touching first last ranges

pub ranges_of-keys_of : (low : ℕ) (ranges : List Range) → AreApart low ranges → ranges_of (keys_of ranges) ≡ ranges
ranges_of-keys_of low [] h = refl
ranges_of-keys_of low (range ∷ ranges) h =
    let size : range.last + 1 - range.first ≡ suc (range.last - range.first) = omega (arith, h.0.ascends) in
    ap (λ count. ranges_of (range_with_len range.first count ++ keys_of ranges)) size
    ∙ one_range range.first (range.last - range.first) range.last (keys_of ranges) ranges (omega (arith, h.0.ascends)) h.1 (ranges_of-keys_of (range.last + 2) ranges h.1)

-- the keys of the longest ranges of rising keys are these keys
pub preceded_set : (key : ℕ) (keys : List ℕ) (ranges : List Range) → key < 2 ^ 62 → keys_of ranges ≡ keys → AreApart (key + 1) ranges → (keys_of (preceded key ranges) ≡ key ∷ keys) × AreApart key (preceded key ranges)
preceded_set key keys [] small is h =
    let one : key + 1 - key ≡ 1 = omega arith in
    (ap (λ count. range_with_len key count ++ []) one ∙ ap (λ rest. key ∷ rest) is, (record { above = omega arith; ascends = omega arith; small = small }, tt))
preceded_set key keys (range ∷ ranges) small is h =
    elim (cases_eq (key + 1) range.first) [
      | inl touch ↦
          let more : range.last + 1 - key ≡ suc (range.last + 1 - range.first) = omega (arith, touch, h.0.ascends) in
          let joined = ap (λ b. cond b (span key range.last ∷ ranges) (span key key ∷ range ∷ ranges)) (eq-eqb (key + 1) range.first touch) in (
            ap keys_of joined ∙ ap (λ count. range_with_len key count ++ keys_of ranges) more ∙ ap (λ next. key ∷ (range_with_len next (range.last + 1 - range.first) ++ keys_of ranges)) touch ∙ ap (λ rest. key ∷ rest) is,
            subst (λ those. AreApart key those) (sym joined) (record { above = omega arith; ascends = omega (arith, touch, h.0.ascends); small = h.0.small }, h.1),
          )
      | inr gap ↦
          let one : key + 1 - key ≡ 1 = omega arith in
          let next : key + 2 ≤ range.first = omega (arith, gap, h.0.above) in
          let apart = ap (λ b. cond b (span key range.last ∷ ranges) (span key key ∷ range ∷ ranges)) (ne_eqb (key + 1) range.first gap) in (
            ap keys_of apart ∙ ap (λ count. range_with_len key count ++ keys_of (range ∷ ranges)) one ∙ ap (λ rest. key ∷ rest) is,
            subst (λ those. AreApart key those) (sym apart) (record { above = omega arith; ascends = omega arith; small = small }, (record { above = next; ascends = h.0.ascends; small = h.0.small }, h.1)),
          )
    ]

pub ranges_of_set : (low : ℕ) (keys : List ℕ) → AllByRecursion (λ key. low ≤ key) keys → IsRising keys → AllByRecursion (λ key. key < 2 ^ 62) keys → (keys_of (ranges_of keys) ≡ keys) × AreApart low (ranges_of keys)
ranges_of_set low [] above rising small = (refl, tt)
ranges_of_set low (key ∷ keys) above rising small =
    let rest = ranges_of_set (key + 1) keys (every_weaker (λ other. key < other) (λ other. key + 1 ≤ other) keys (λ other lt. omega (arith, lt)) rising.0) rising.1 small.1 in
    let whole = preceded_set key keys (ranges_of keys) small.0 rest.0 rest.1 in
    (whole.0, apart_weaker low key (preceded key (ranges_of keys)) above.0 whole.1)

pub keys_of-ranges_of : (keys : List ℕ) → IsKeySet keys → keys_of (ranges_of keys) ≡ keys
keys_of-ranges_of keys h = (ranges_of_set 0 keys (every (λ key. 0 ≤ key) keys (λ key. omega arith)) h.rising h.small).0

pub ranges_of_apart : (keys : List ℕ) → IsKeySet keys → AreApart 0 (ranges_of keys)
ranges_of_apart keys h = (ranges_of_set 0 keys (every (λ key. 0 ≤ key) keys (λ key. omega arith)) h.rising h.small).1
