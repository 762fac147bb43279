-- An order with an entry more and with an entry less.
use Rattle.std.proofs.Common.{◌≡◌, refl, ap, sym, ◌∙◌, subst, true, false, ℕ, zero, suc, ◌<◌, ◌≤◌, arith, List, [], ◌∷◌, ◌++◌, length, take, drop, take-append-drop, length-take-le, Some, None, Bool, Ok, Err, true≢false}
use Rattle.std.{specs.Prelude.{insert, remove, slice_get}, specs.List.AllByRecursion, specs.Option.{ok_or, option_map_or}}
use Rattle.chunk_list.specs.Chunked.{joined, IsChunk}
use Rattle.key_lists.{proofs.Every.every-append, proofs.Parts.{every_front, every_back, every_remove}}
use Rattle.tick_model.specs.declared.plan.SortBy.{SortBy}
use Rattle.sort_op.{specs.declared.entry.Entry.Entry, specs.Entries.{comes_before, count_before, entries, found, is_same, place_of, IsOrder, IsWhole, Order, Rises}, proofs.Rises.{rises_back, rises_with, rises_without}, proofs.Searches.{count_is, each_other, others_before, others_behind, others_past, place_here, place_none, FirstIsOther}}

-- the first of those from a place on
first_from : (xs : List Entry) (n : ℕ) → slice_get (drop n xs) 0 ≡ slice_get xs n
first_from [] zero = refl
first_from [] (suc n) = refl
first_from (x ∷ xs) zero = refl
first_from (x ∷ xs) (suc n) = first_from xs n

-- what passes a test at a place is there
pub held_within : {X : Type 0} (p : X → Bool) (xs : List X) (i : ℕ) → option_map_or p (slice_get xs i) false ≡ true → i < length xs
held_within p [] i e = absurd (true≢false (sym e))
held_within p (x ∷ xs) zero e = omega arith
held_within p (x ∷ xs) (suc i) e = omega (arith, held_within p xs i e)

module _ (by : List SortBy) (entry : Entry) (xs : List Entry) (n : ℕ) (within : n ≤ length xs)
    (less : AllByRecursion (λ x. comes_before by x entry ≡ true) (take n xs)) (more : AllByRecursion (λ y. comes_before by y entry ≡ false) (drop n xs)) where
  whole : xs ≡ take n xs ++ drop n xs
  whole = sym (take-append-drop n xs)

  front : length (take n xs) ≡ n
  front = length-take-le n xs within

  pub count_at : count_before by entry xs ≡ n
  count_at = ap (count_before by entry) whole ∙ count_is by entry (take n xs) (drop n xs) less more ∙ front

  module _ (rises : Rises by xs) (wholes : AllByRecursion (IsWhole by) xs) (own : IsWhole by entry) where
    rises_at : Rises by (take n xs ++ drop n xs)
    rises_at = subst (Rises by) whole rises

    wholes_at : AllByRecursion (IsWhole by) (take n xs ++ drop n xs)
    wholes_at = subst (AllByRecursion (IsWhole by)) whole wholes

    later : FirstIsOther entry (drop n xs) → AllByRecursion (λ y. comes_before by entry y ≡ true) (drop n xs)
    later first = others_behind by entry (drop n xs) (rises_back by (take n xs) (drop n xs) rises_at) (every_back (IsWhole by) (take n xs) (drop n xs) wholes_at) own more first

    pub rises_more : place_of entry xs ≡ None → Rises by (insert xs n entry)
    rises_more absent =
        rises_with by entry (take n xs) (drop n xs) rises_at less
        (later (first_other (drop n xs) (every_back (λ x. is_same x entry ≡ false) (take n xs) (drop n xs) (subst (AllByRecursion (λ x. is_same x entry ≡ false)) whole (each_other entry xs absent)))))
      where
        first_other : (ys : List Entry) → AllByRecursion (λ y. is_same y entry ≡ false) ys → FirstIsOther entry ys
        first_other [] h = tt
        first_other (y ∷ ys) h = h.0

    pub wholes_more : AllByRecursion (IsWhole by) (insert xs n entry)
    wholes_more = every-append (IsWhole by) (take n xs) (entry ∷ drop n xs) (every_front (IsWhole by) (take n xs) (drop n xs) wholes_at) (own, every_back (IsWhole by) (take n xs) (drop n xs) wholes_at)

    -- what the test of the entry at the place says
    module _ (here : Bool) (tested : option_map_or (λ other. is_same other entry) (slice_get xs n) false ≡ here) where
      first_is : (ys : List Entry) → option_map_or (λ other. is_same other entry) (slice_get ys 0) false ≡ true → (x : Entry) × ((rest : List Entry) × ((ys ≡ x ∷ rest) × (is_same x entry ≡ true)))
      first_is [] e = absurd (true≢false (sym e))
      first_is (y ∷ ys) e = (y, (ys, (refl, e)))

      first_is_not : (ys : List Entry) → option_map_or (λ other. is_same other entry) (slice_get ys 0) false ≡ false → FirstIsOther entry ys
      first_is_not [] e = tt
      first_is_not (y ∷ ys) e = e

      said : option_map_or (λ other. is_same other entry) (slice_get (drop n xs) 0) false ≡ here
      said = ap (λ o. option_map_or (λ other. is_same other entry) o false) (first_from xs n) ∙ tested

      pub place_held : here ≡ true → place_of entry xs ≡ Some n
      place_held e =
          let t = first_is (drop n xs) (said ∙ e) in
          ap (place_of entry) (whole ∙ ap (λ ys. take n xs ++ ys) t.1.1.0)
          ∙ place_here entry (take n xs) t.0 t.1.0 (others_before by entry (take n xs) less) t.1.1.1
          ∙ ap Some front

      pub place_absent : here ≡ false → place_of entry xs ≡ None
      place_absent e =
          place_none entry xs
          (subst (AllByRecursion (λ x. is_same x entry ≡ false)) (sym whole)
          (every-append (λ x. is_same x entry ≡ false) (take n xs) (drop n xs) (others_before by entry (take n xs) less) (others_past by entry (drop n xs) (later (first_is_not (drop n xs) (said ∙ e))))))

      pub found_there : here ≡ true → found by entry xs ≡ Ok n
      found_there e = ap (λ place. ok_or place (count_before by entry xs)) (place_held e)

      pub found_nowhere : here ≡ false → found by entry xs ≡ Err n
      found_nowhere e = ap (λ place. ok_or place (count_before by entry xs)) (place_absent e) ∙ ap Err count_at

-- an order with an entry more, and with one less
pub order_more : (order : Order) → IsOrder order → (entry : Entry) → IsWhole order.by entry → (n : ℕ) → n ≤ length (entries order)
    → AllByRecursion (λ x. comes_before order.by x entry ≡ true) (take n (entries order)) → AllByRecursion (λ y. comes_before order.by y entry ≡ false) (drop n (entries order))
    → (new : List (List Entry)) → AllByRecursion IsChunk new → place_of entry (entries order) ≡ None → joined new ≡ insert (entries order) n entry → IsOrder (record { by = order.by; chunks = new })
order_more order is entry own n within less more new sizes absent so = record {
  rising = subst (Rises order.by) (sym so) (rises_more order.by entry (entries order) n within less more is.rising is.whole own absent);
  whole = subst (AllByRecursion (IsWhole order.by)) (sym so) (wholes_more order.by entry (entries order) n within less more is.rising is.whole own);
  chunks = sizes;
}

pub order_less : (order : Order) → IsOrder order → (n : ℕ) (new : List (List Entry)) → AllByRecursion IsChunk new → joined new ≡ remove (entries order) n → IsOrder (record { by = order.by; chunks = new })
order_less order is n new sizes so = record {
  rising = subst (Rises order.by) (sym so) (rises_without order.by (entries order) n is.rising);
  whole = subst (AllByRecursion (IsWhole order.by)) (sym so) (every_remove (IsWhole order.by) (entries order) n is.whole);
  chunks = sizes;
}
