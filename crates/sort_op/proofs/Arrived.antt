-- Where entries stand that were put in one behind the other.
use Rattle.std.proofs.Common.{◌≡◌, refl, ap, ap₂, sym, ◌∙◌, subst, true, false, ◌||◌, ◌==◌, ℕ, zero, suc, ◌<◌, ◌≤◌, arith, List, [], ◌∷◌, ◌++◌, map, take, drop, length, get_or, append_assoc, take-append-drop, length-take-le, Option, Some, None, inl, inr}
use Rattle.std.{specs.Prelude.{insert, slice_get}, specs.Cmp.IsStrictWeakOrder, specs.List.AllByRecursion, specs.List.Sorted.{IsPermutation, IsSortedBy}, specs.Option.option_map_or, proofs.lemmas.Bool.{cases_eq, eq-eqb, ne_eqb}, proofs.lemmas.Cmp.back_total, proofs.lemmas.List.append-nil, proofs.lemmas.List.Edits.insert_end, proofs.lemmas.List.Elements.recursion_from_All, proofs.lemmas.List.MinMax.ranks_by, proofs.lemmas.List.Sorted.sorted_far}
use Rattle.key_lists.{specs.Keys.is_among, proofs.Among.among-append, proofs.Every.{every, every_both, every_weaker, every-append, every-map, map_own}, proofs.Booleans.{or_false, or_true}, proofs.Parts.{every_front, every_back}}
use Rattle.tick_model.specs.declared.plan.SortBy.{SortBy}
use Rattle.sort_op.{specs.declared.entry.Entry.Entry, specs.Entries.{comes_before, is_in, is_same, place_of, AreDistinct, Falls, IsWhole, Rises}, specs.Places.{AreFound, is_one}, proofs.Batched.same_flip, proofs.Comparing.{before_trans, behind, entries_total, is_same_own, other_before}, proofs.Inserted.{in_permuted, others_than_first, others_than_last}, proofs.Rises.rises_back, proofs.Searches.each_other}

none_one : (some entries : List Entry) (at : ℕ) → AllByRecursion (λ entry. is_in entry some ≡ false) entries → is_one entries some at ≡ false
none_one some [] at h = refl
none_one some (entry ∷ entries) zero h = h.0
none_one some (entry ∷ entries) (suc at) h = none_one some entries at h.1

none_in : (entry : Entry) (some : List Entry) → AllByRecursion (λ other. is_same other entry ≡ false) some → is_in entry some ≡ false
none_in entry [] h = refl
none_in entry (other ∷ some) h = ap₂ (λ a b. a || b) h.0 (none_in entry some h.1)

module _ (entry : Entry) (came : List Entry) where
  other_of : (other : Entry) → is_same entry other ≡ false → is_in other (entry ∷ came) ≡ is_in other came
  other_of other e = ap (λ b. b || is_in other came) e

  -- one entry more among others of which it is none
  one_more : (front back : List Entry) (at : ℕ) → AllByRecursion (λ other. is_same entry other ≡ false) front → AllByRecursion (λ other. is_same entry other ≡ false) back → AllByRecursion (λ other. is_in other came ≡ false) back
      → is_one (front ++ entry ∷ back) (entry ∷ came) at ≡ (is_one (front ++ back) came at || (length front == at))
  one_more [] back zero f b none = ap (λ t. t || is_in entry came) (is_same_own entry) ∙ sym (or_true (is_one back came 0))
  one_more [] back (suc at) f b none =
      none_one (entry ∷ came) back at (every_both (λ other. is_same entry other ≡ false) (λ other. is_in other came ≡ false) (λ other. is_in other (entry ∷ came) ≡ false) back (λ other e h. other_of other e ∙ h) b none)
      ∙ sym (ap₂ (λ a b. a || b) (none_one came back (suc at) none) (ne_eqb 0 (suc at) (λ e. omega (arith, e))))
  one_more (other ∷ front) back zero f b none =
      other_of other f.0 ∙ sym (ap (λ t. is_in other came || t) (ne_eqb (suc (length front)) 0 (λ e. omega (arith, e))) ∙ or_false (is_in other came))
  one_more (other ∷ front) back (suc at) f b none = one_more front back at f.1 b none ∙ ap (λ t. is_one (front ++ back) came at || t) (later (length front) at)
    where
      later : (m n : ℕ) → (m == n) ≡ (suc m == suc n)
      later m n =
          elim (cases_eq m n) [
            | inl e ↦ eq-eqb m n e ∙ sym (eq-eqb (suc m) (suc n) (omega (arith, e)))
            | inr e ↦ ne_eqb m n e ∙ sym (ne_eqb (suc m) (suc n) (λ same. e (omega (arith, same))))
          ]

module _ (by : List SortBy) where
  -- what a sort by the order backward leaves, of rows by their entries
  pub rows_weak : {X : Type 0} (f : X → Entry) → IsStrictWeakOrder (λ a b. comes_before by (f b) (f a))
  rows_weak f = ranks_by (back_total (entries_total by)) f

  rows_fall_at : {X : Type 0} (f : X → Entry) (xs : List X) → ((i j : ℕ) (d : X) → i < j → j < length xs → comes_before by (f (get_or xs i d)) (f (get_or xs j d)) ≡ false) → Falls by (map f xs)
  rows_fall_at f [] h = tt
  rows_fall_at f (x ∷ xs) h = (
    every-map (λ y. comes_before by (f x) y ≡ false) f xs (recursion_from_All (λ y. comes_before by (f x) (f y) ≡ false) xs (λ k d within. h 0 (suc k) d (omega arith) (omega (arith, within)))),
    rows_fall_at f xs (λ i j d less within. h (suc i) (suc j) d (omega (arith, less)) (omega (arith, within))),
  )

  pub rows_fall : {X : Type 0} (f : X → Entry) (xs : List X) → IsSortedBy (λ a b. comes_before by (f b) (f a)) xs → Falls by (map f xs)
  rows_fall f xs sorted = rows_fall_at f xs (λ i j d less within. sorted_far (λ a b. comes_before by (f b) (f a)) (rows_weak f) xs sorted i j d (omega (arith, less)) within)

  pub backward_weak : IsStrictWeakOrder (λ a b. comes_before by b a)
  backward_weak = rows_weak (λ (entry : Entry). entry)

  pub falls : (xs : List Entry) → IsSortedBy (λ a b. comes_before by b a) xs → Falls by xs
  falls xs sorted = subst (Falls by) (map_own (λ (entry : Entry). entry) xs (every (λ entry. entry ≡ entry) xs (λ entry. refl))) (rows_fall (λ (entry : Entry). entry) xs sorted)

  falls_back : (xs ys : List Entry) → Falls by (xs ++ ys) → Falls by ys
  falls_back [] ys h = h
  falls_back (x ∷ xs) ys h = falls_back xs ys h.1

  -- those of the entries that were put in, and the positions at which they stand
  pub record HaveArrived (all rest now : List Entry) (positions : List ℕ) : Type 0 where
    pub came : List Entry
    pub split : all ≡ rest ++ came
    pub found : AreFound now came positions

  pub one_arrived : (all rest old now : List Entry) (entry : Entry) (place : ℕ) (positions : List ℕ) → Falls by all → AreDistinct all → AllByRecursion (IsWhole by) all → Rises by now → place_of entry old ≡ None → place ≤ length old → now ≡ insert old place entry
      → HaveArrived all (rest ++ entry ∷ []) old positions → HaveArrived all rest now (positions ++ place ∷ [])
  one_arrived all rest old now entry place positions falls distinct whole rises_now absent within is h = record {
    came = entry ∷ h.came;
    split = apart;
    found = λ at.
        among-append at positions (place ∷ [])
        ∙ ap₂ (λ a b. a || b) (h.found at ∙ ap (λ xs. is_one xs h.came at) (sym parts)) (or_false (place == at) ∙ ap (λ n. n == at) (sym (length-take-le place old within)))
        ∙ sym (one_more entry h.came (take place old) (drop place old) at front back none)
        ∙ ap (λ xs. is_one xs (entry ∷ h.came) at) (sym is);
  }
    where
      apart : all ≡ rest ++ entry ∷ h.came
      apart = h.split ∙ append_assoc rest (entry ∷ []) h.came

      parts : take place old ++ drop place old ≡ old
      parts = take-append-drop place old

      others : AllByRecursion (λ other. is_same entry other ≡ false) (take place old ++ drop place old)
      others = every_weaker (λ other. is_same other entry ≡ false) (λ other. is_same entry other ≡ false) (take place old ++ drop place old) (λ other e. same_flip entry other ∙ e) (subst (AllByRecursion (λ other. is_same other entry ≡ false)) (sym parts) (each_other entry old absent))

      front : AllByRecursion (λ other. is_same entry other ≡ false) (take place old)
      front = every_front (λ other. is_same entry other ≡ false) (take place old) (drop place old) others

      back : AllByRecursion (λ other. is_same entry other ≡ false) (drop place old)
      back = every_back (λ other. is_same entry other ≡ false) (take place old) (drop place old) others

      -- those that came before stand before the entry
      before : AllByRecursion (λ other. comes_before by other entry ≡ true) h.came
      before =
          let own = every_back (IsWhole by) rest (entry ∷ h.came) (subst (AllByRecursion (IsWhole by)) apart whole) in
          every_both (λ other. IsWhole by other) (λ other. (comes_before by entry other ≡ false) × (is_same other entry ≡ false)) (λ other. comes_before by other entry ≡ true) h.came
          (λ other w e. behind by entry other own.0 w e.0 (same_flip entry other ∙ e.1)) own.1
          (every_both (λ other. comes_before by entry other ≡ false) (λ other. is_same other entry ≡ false) (λ other. (comes_before by entry other ≡ false) × (is_same other entry ≡ false)) h.came (λ other a b. (a, b))
          (falls_back rest (entry ∷ h.came) (subst (Falls by) apart falls)).0 (others_than_first rest entry h.came (subst AreDistinct apart distinct)))

      -- and none of them among those behind it
      none : AllByRecursion (λ other. is_in other h.came ≡ false) (drop place old)
      none =
          every_weaker (λ other. comes_before by entry other ≡ true) (λ other. is_in other h.came ≡ false) (drop place old)
          (λ other later. none_in other h.came (every_weaker (λ first. comes_before by first entry ≡ true) (λ first. is_same first other ≡ false) h.came (λ first less. other_before by first other (before_trans by first entry other less later)) before))
          (rises_back by (take place old) (entry ∷ drop place old) (subst (Rises by) is rises_now)).0

  -- those that are still to come stand behind one that stands last
  stand_before : (xs : List Entry) (entry : Entry) → Rises by (xs ++ entry ∷ []) → AllByRecursion (λ x. comes_before by x entry ≡ true) xs
  stand_before [] entry h = tt
  stand_before (x ∷ xs) entry h = ((every_back (λ y. comes_before by x y ≡ true) xs (entry ∷ []) h.0).0, stand_before xs entry h.1)

  not_before : (rest came : List Entry) (entry : Entry) → Falls by ((rest ++ entry ∷ []) ++ came) → AllByRecursion (λ x. comes_before by x entry ≡ false) rest
  not_before [] came entry h = tt
  not_before (x ∷ rest) came entry h =
      let later : Entry → Type 0 = λ y. comes_before by x y ≡ false in
      ((every_back later rest (entry ∷ []) (every_front later (rest ++ entry ∷ []) came h.0)).0, not_before rest came entry h.1)

  pub last_ahead : (all rest old now : List Entry) (entry : Entry) (place : ℕ) (positions : List ℕ) → Falls by all → AreDistinct (rest ++ entry ∷ []) → AllByRecursion (IsWhole by) all → Rises by now → place ≡ length old → now ≡ insert old place entry
      → HaveArrived all (rest ++ entry ∷ []) old positions → AllByRecursion (λ x. AllByRecursion (λ y. comes_before by y x ≡ true) now) rest
  last_ahead all rest old now entry place positions falls distinct whole rises last is h =
      every_weaker (λ x. comes_before by entry x ≡ true) (λ x. AllByRecursion (λ y. comes_before by y x ≡ true) now) rest
      (λ x later. subst (AllByRecursion (λ y. comes_before by y x ≡ true)) (sym more) (every-append (λ y. comes_before by y x ≡ true) old (entry ∷ []) (every_weaker (λ y. comes_before by y entry ≡ true) (λ y. comes_before by y x ≡ true) old (λ y sooner. before_trans by y entry x sooner later) (stand_before old entry (subst (Rises by) more rises))) (later, tt)))
      (every_both (λ x. IsWhole by x) (λ x. (comes_before by x entry ≡ false) × (is_same x entry ≡ false)) (λ x. comes_before by entry x ≡ true) rest
      (λ x w e. behind by x entry w (every_back (IsWhole by) rest (entry ∷ []) own).0 e.0 e.1) (every_front (IsWhole by) rest (entry ∷ []) own)
      (every_both (λ x. comes_before by x entry ≡ false) (λ x. is_same x entry ≡ false) (λ x. (comes_before by x entry ≡ false) × (is_same x entry ≡ false)) rest (λ x a b. (a, b))
      (not_before rest h.came entry (subst (Falls by) h.split falls)) (others_than_last rest entry distinct)))
    where
      more : now ≡ old ++ entry ∷ []
      more = is ∙ ap (λ n. insert old n entry) last ∙ insert_end old entry

      own : AllByRecursion (IsWhole by) (rest ++ entry ∷ [])
      own = every_front (IsWhole by) (rest ++ entry ∷ []) h.came (subst (AllByRecursion (IsWhole by)) h.split whole)

  pub none_arrived : (all now : List Entry) (positions : List ℕ) → positions ≡ [] → HaveArrived all all now positions
  none_arrived all now positions is = record { came = []; split = sym (append-nil all); found = λ at. ap (is_among at) is ∙ none (slice_get now at) }
    where
      none : (o : Option Entry) → false ≡ option_map_or (λ entry. is_in entry []) o false
      none None = refl
      none (Some entry) = refl

  pub all_arrived : (some all now : List Entry) (positions : List ℕ) → IsPermutation some all → HaveArrived all [] now positions → AreFound now some positions
  all_arrived some all now positions same h at = h.found at ∙ ap (λ came. is_one now came at) (sym h.split) ∙ turned (slice_get now at)
    where
      turned : (o : Option Entry) → option_map_or (λ entry. is_in entry all) o false ≡ option_map_or (λ entry. is_in entry some) o false
      turned None = refl
      turned (Some entry) = in_permuted some all same entry
