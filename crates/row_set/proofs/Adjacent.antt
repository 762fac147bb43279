-- Runs of keys that follow one another.
use Rattle.std.proofs.Common.{◌≡◌, ap, sym, ◌∙◌, Bool, ◌==◌, ◌||◌, ℕ, ◌+◌, ◌-◌, ◌<◌, ◌≤◌, arith, List, [], ◌∷◌, get_or, length, take, inl, inr}
use Rattle.std.{specs.List.range_with_len, proofs.lemmas.Bool.cases_eq, proofs.lemmas.List.Folds.list_any_more, proofs.lemmas.List.FromFn.length-range_with_len}
use Rattle.key_lists.{specs.Keys.is_among, proofs.Among.among-append, proofs.Booleans.{or_assoc, or_false, or_turned, or_twice}, proofs.Ranges.range_last}
use Rattle.row_set.{specs.Ranges.keys_from, specs.Sets.united, proofs.United.{among-united, among-with_key, length-united, one_key}}

-- the keys of a list up to the next one
among_next : (other : ℕ) (keys : List ℕ) (n key : ℕ) (b : Bool) → n < length keys → key ≡ get_or keys n 0 → b ≡ is_among other (take n keys) → ((key == other) || b) ≡ is_among other (take (n + 1) keys)
among_next other keys n key b within is so_far =
    ap (λ t. (key == other) || t) so_far
    ∙ or_turned (key == other) (is_among other (take n keys))
    ∙ ap (λ k. is_among other (take n keys) || (k == other)) is
    ∙ sym (list_any_more (λ k. k == other) keys n 0 within)

-- one number more at the end of a range
last_among : (other first n : ℕ) → is_among other (range_with_len first (n + 1)) ≡ ((first + n == other) || is_among other (range_with_len first n))
last_among other first n =
    ap (is_among other) (range_last first n)
    ∙ among-append other (range_with_len first n) ((first + n) ∷ [])
    ∙ ap (λ b. is_among other (range_with_len first n) || b) (or_false (first + n == other))
    ∙ or_turned (is_among other (range_with_len first n)) (first + n == other)

-- a run that goes on to a key, where this is its last one or the next
run_further : (other first last key : ℕ) → first ≤ last → last ≤ key → key ≤ last + 1 → is_among other (keys_from first key) ≡ ((key == other) || is_among other (keys_from first last))
run_further other first last key order from to =
    elim (cases_eq key last) [
      | inl same ↦
          let n = last - first in
          let count : last + 1 - first ≡ n + 1 = omega arith in
          let end : first + n ≡ key = omega (arith, same) in
          let here = ap (λ m. is_among other (range_with_len first m)) count ∙ last_among other first n ∙ ap (λ k. (k == other) || is_among other (range_with_len first n)) end in
          ap (λ k. is_among other (keys_from first k)) same
          ∙ here
          ∙ sym (or_twice (key == other) (is_among other (range_with_len first n)))
          ∙ ap (λ b. (key == other) || b) (sym here)
      | inr differs ↦
          let n = last + 1 - first in
          let count : key + 1 - first ≡ n + 1 = omega (arith, differs) in
          let end : first + n ≡ key = omega (arith, differs) in
          ap (λ m. is_among other (range_with_len first m)) count ∙ last_among other first n ∙ ap (λ k. (k == other) || is_among other (range_with_len first n)) end
    ]

pub run_on : (other first last key : ℕ) (set keys : List ℕ) (n : ℕ) → first ≤ last → last ≤ key → key ≤ last + 1 → n < length keys → key ≡ get_or keys n 0 → is_among other (united (keys_from first last) set) ≡ is_among other (take n keys) → is_among other (united (keys_from first key) set) ≡ is_among other (take (n + 1) keys)
run_on other first last key set keys n order from to within is so_far =
    among-united other (keys_from first key) set
    ∙ ap (λ b. b || is_among other set) (run_further other first last key order from to)
    ∙ sym (or_assoc (key == other) (is_among other (keys_from first last)) (is_among other set))
    ∙ among_next other keys n key (is_among other (keys_from first last) || is_among other set) within is (sym (among-united other (keys_from first last) set) ∙ so_far)

-- a run that begins
pub run_begun : (other key : ℕ) (set keys : List ℕ) (n : ℕ) → n < length keys → key ≡ get_or keys n 0 → is_among other set ≡ is_among other (take n keys) → is_among other (united (keys_from key key) set) ≡ is_among other (take (n + 1) keys)
run_begun other key set keys n within is so_far =
    ap (λ ks. is_among other (united ks set)) (one_key key) ∙ among-with_key other key set ∙ among_next other keys n key (is_among other set) within is so_far

-- a set has no more keys than there were in it and its last run
pub no_more_than : (first last : ℕ) (set : List ℕ) → first ≤ last → length (united (keys_from first last) set) + first ≤ last + 1 + length set
no_more_than first last set order = omega (arith, length-united (keys_from first last) set, length-range_with_len first (last + 1 - first))
