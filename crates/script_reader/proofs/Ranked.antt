-- The place of a text among texts that rise, found by halves.
use Rattle.std.proofs.Common.{◌≡◌, refl, ap, sym, ◌∙◌, true, ℕ, zero, suc, ◌+◌, ◌<◌, arith, List, [], ◌∷◌, length, get_or, inl, inr}
use Rattle.std.{specs.Prelude.{Result, Ok, Err, MatchResult}, specs.List.{AllByRecursion, position_or_len}, specs.List.Sorted.{IsBinarySearchResult, IsSearchInRange, IsSortedBy}, specs.Ordering.{nat_cmp, is_lt, is_eq, ordering_reverse}, specs.Str.bytes_eq, specs.Cmp.Lexicographic.{slice_cmp, nat_list_cmp_total}, specs.declared.cmp.Ordering.Ordering, specs.declared.cmp.Ordering.TheVariants.{Less, Equal, Greater}, proofs.lemmas.Bool.cases_lt, proofs.lemmas.Bool.Decides.nat_tests, proofs.lemmas.Cmp.same_from_slice_cmp, proofs.lemmas.List.get_or_default, proofs.lemmas.List.Sorted.searchable_from_sorted, proofs.lemmas.List.Sums.position_or_len_is}
use Rattle.key_lists.proofs.Booleans.{less_from}
use Rattle.tick_model.specs.LawfulRuns.{AreTexts, is_before}

abbrev order : List ℕ → List ℕ → Ordering
order = slice_cmp nat_cmp

equal_texts : (a b : List ℕ) → is_eq (order a b) ≡ bytes_eq a b
equal_texts a b = same_from_slice_cmp nat_cmp is_eq bytes_eq refl (λ _ _. refl) (λ _ _. refl) (λ x y xs ys o h. grind (arith, nat_tests)) a b (order a b) refl

-- an earlier text is less than a later one
before_later : (text : List ℕ) (texts : List (List ℕ)) (k : ℕ) → AllByRecursion (λ later. is_before text later ≡ true) texts → k < length texts → order text (get_or texts k []) ≡ Less
before_later text [] k h less = absurd (omega arith)
before_later text (other ∷ texts) zero h less = less_from (order text other) h.0
before_later text (other ∷ texts) (suc k) h less = before_later text texts k h.1 (omega arith)

texts_before : (texts : List (List ℕ)) (j k : ℕ) → AreTexts texts → j < k → k < length texts → order (get_or texts j []) (get_or texts k []) ≡ Less
texts_before [] j k h less within = absurd (omega arith)
texts_before (text ∷ texts) j zero h less within = absurd (omega arith)
texts_before (text ∷ texts) zero (suc k) h less within = before_later text texts k h.1 (omega arith)
texts_before (text ∷ texts) (suc j) (suc k) h less within = texts_before texts j k h.2 (omega arith) (omega arith)

texts_sorted : (texts : List (List ℕ)) → AreTexts texts → IsSortedBy (λ a b. is_lt (order a b)) texts
texts_sorted texts h = λ k d low high.
    let within : k < length texts = omega arith in
    let turned : order (get_or texts (k + 1) []) (get_or texts k []) ≡ Greater = nat_list_cmp_total.antisymm (get_or texts (k + 1) []) (get_or texts k []) ∙ ap ordering_reverse (texts_before texts k (k + 1) h (omega arith) high) in
    ap (λ a. is_lt (order a (get_or texts k d))) (get_or_default texts (k + 1) d [] high) ∙ ap (λ b. is_lt (order (get_or texts (k + 1) []) b)) (get_or_default texts k d [] within) ∙ ap is_lt turned

-- the two ways round
told_apart : (text other : List ℕ) (o : Ordering) → order other text ≡ o → bytes_eq text other ≡ is_eq (ordering_reverse o)
told_apart text other o h = sym (equal_texts text other) ∙ ap is_eq (nat_list_cmp_total.antisymm text other ∙ ap ordering_reverse h)

pub ranked : (text : List ℕ) (texts : List (List ℕ)) (r : Result ℕ ℕ) → AreTexts texts → IsSearchInRange r (length texts) → IsBinarySearchResult (λ other. order other text) texts r
    → MatchResult r (λ i. i ≡ position_or_len (bytes_eq text) texts) (λ i. length texts ≡ position_or_len (bytes_eq text) texts)
ranked text texts (Ok i) h within found =
    let here : order (get_or texts i []) text ≡ Equal = found [] in
    let bound : i < length texts = within in
    sym (position_or_len_is (bytes_eq text) texts i [] (omega (arith, bound))
    (λ k earlier.
    let turned : order text (get_or texts k []) ≡ Greater =
    sym (nat_list_cmp_total.congr (get_or texts i []) text (get_or texts k []) here) ∙ nat_list_cmp_total.antisymm (get_or texts i []) (get_or texts k []) ∙ ap ordering_reverse (texts_before texts k i h earlier within) in
    sym (equal_texts text (get_or texts k [])) ∙ ap is_eq turned)
    (λ _. told_apart text (get_or texts i []) Equal here))
ranked text texts (Err i) h within lacks =
    let parted = lacks (searchable_from_sorted nat_list_cmp_total (λ t. t) texts text (texts_sorted texts h)) in
    sym (position_or_len_is (bytes_eq text) texts (length texts) [] (omega arith)
    (λ k before.
    elim (cases_lt k i) [
      | inl below ↦ told_apart text (get_or texts k []) Less (parted.0 k [] (omega arith) below)
      | inr above ↦ told_apart text (get_or texts k []) Greater (parted.1 k [] above before)
    ])
    (λ past. absurd (omega arith)))
