-- The keys of several ranges, added and removed one range after another.
use Rattle.std.proofs.Common.{◌≡◌, refl, ap, sym, ◌∙◌, Bool, true, false, not, ◌&&◌, ◌||◌, ◌==◌, ℕ, ◌+◌, ◌<◌, arith, List, [], ◌∷◌, ◌++◌, length, take, drop, get_or, take-append-drop, append-nil, eqb-true}
use Rattle.std.proofs.lemmas.List.{take_more}
use Rattle.key_lists.{specs.Keys.{is_among, IsRising, without}, proofs.Every.{filter_filter, filter_same, every, filter_all}, proofs.Among.among-append, proofs.Rising.rising_same, proofs.Booleans.{neither, or_false}}
use Rattle.row_set.{specs.declared.ranges.Range.Range, specs.Ranges.{keys_from, keys_in, keys_of}, specs.Sets.united, proofs.Held.keys_of-append, proofs.Counts.blank, proofs.United.{among-united, united_rises}}

or_turned : (b a o : Bool) → (b || (a || o)) ≡ ((a || b) || o)
or_turned true true o = refl
or_turned true false o = refl
or_turned false true o = refl
or_turned false false o = refl

united_append : (first second keys : List ℕ) → IsRising keys → united second (united first keys) ≡ united (first ++ second) keys
united_append first second keys h =
    rising_same (united second (united first keys)) (united (first ++ second) keys) (united_rises second (united first keys) (united_rises first keys h)) (united_rises (first ++ second) keys h)
    (λ key.
    among-united key second (united first keys)
    ∙ ap (λ b. is_among key second || b) (among-united key first keys)
    ∙ or_turned (is_among key second) (is_among key first) (is_among key keys)
    ∙ ap (λ b. b || is_among key keys) (sym (among-append key first second))
    ∙ sym (among-united key (first ++ second) keys))

without_append : (first second keys : List ℕ) → without second (without first keys) ≡ without (first ++ second) keys
without_append first second keys =
    filter_filter (λ key. not (is_among key second)) (λ key. not (is_among key first)) keys
    ∙ filter_same (λ key. not (is_among key first) && not (is_among key second)) (λ key. not (is_among key (first ++ second))) keys
    (every (λ key. (not (is_among key first) && not (is_among key second)) ≡ not (is_among key (first ++ second))) keys (λ key. neither (is_among key first) (is_among key second) ∙ ap not (sym (among-append key first second))))

keys_more : (others : List Range) (i : ℕ) → i < length others → keys_of (take i others) ++ keys_in (get_or others i blank) ≡ keys_of (take (i + 1) others)
keys_more others i lt =
    ap (λ those. keys_of (take i others) ++ those) (sym (append-nil (keys_in (get_or others i blank))))
    ∙ sym (keys_of-append (take i others) (get_or others i blank ∷ []))
    ∙ ap keys_of (sym (take_more others i blank lt))

pub united_more : (others : List Range) (i : ℕ) (keys : List ℕ) → IsRising keys → i < length others → united (keys_from (get_or others i blank).first (get_or others i blank).last) (united (keys_of (take i others)) keys) ≡ united (keys_of (take (i + 1) others)) keys
united_more others i keys h lt = united_append (keys_of (take i others)) (keys_in (get_or others i blank)) keys h ∙ ap (λ those. united those keys) (keys_more others i lt)

pub without_more : (others : List Range) (i : ℕ) (keys : List ℕ) → i < length others → without (keys_from (get_or others i blank).first (get_or others i blank).last) (without (keys_of (take i others)) keys) ≡ without (keys_of (take (i + 1) others)) keys
without_more others i keys lt = without_append (keys_of (take i others)) (keys_in (get_or others i blank)) keys ∙ ap (λ those. without those keys) (keys_more others i lt)

-- some that come first remove nothing
pub without_rest : (others : List Range) (i : ℕ) (keys new : List ℕ) → keys ≡ without (keys_of (take i others)) keys → new ≡ without (keys_of (drop i others)) keys → new ≡ without (keys_of others) keys
without_rest others i keys new none is =
    is
    ∙ ap (without (keys_of (drop i others))) none
    ∙ without_append (keys_of (take i others)) (keys_of (drop i others)) keys
    ∙ ap (λ those. without those keys) (sym (keys_of-append (take i others) (drop i others)) ∙ ap keys_of (take-append-drop i others))

pub without_none : (keys : List ℕ) → keys ≡ without [] keys
without_none keys = sym (filter_all keys)

-- no other keys
pub empty_united : (others keys : List ℕ) → (length others == 0) ≡ true → keys ≡ united others keys
empty_united [] keys e = refl
empty_united (other ∷ others) keys e = absurd (omega (arith, eqb-true (length (other ∷ others)) 0 e))

pub empty_without : (others keys : List ℕ) → (length others == 0) ≡ true → keys ≡ without others keys
empty_without [] keys e = without_none keys
empty_without (other ∷ others) keys e = absurd (omega (arith, eqb-true (length (other ∷ others)) 0 e))

pub united_empty : (keys others : List ℕ) → IsRising keys → (length others == 0) ≡ true → keys ≡ united keys others
united_empty keys [] rises e = rising_same keys (united keys []) rises (united_rises keys [] tt) (λ key. sym (among-united key keys [] ∙ or_false (is_among key keys)))
united_empty keys (other ∷ others) rises e = absurd (omega (arith, eqb-true (length (other ∷ others)) 0 e))
