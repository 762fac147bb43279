-- A run reaches its good steps.
use Rattle.std.proofs.Common.{◌≡◌, refl, subst, ℕ, zero, suc, ◌+◌, ◌<◌, ◌≤◌, arith, inl, inr, Bool, true, false, true≢false, cond, length, Option, Some, None}
use Rattle.std.{specs.Prelude.{find, is_some, option_map}, specs.List.range_with_len, proofs.lemmas.Bool.cases_lt}
use Rattle.tick_model.{specs.declared.feed.Run.Run, specs.Sources.batch_fault, specs.Spoiled.{ByBatch, node_fault, publication_fault, spoiled_by, first_spoiled, step_before, good}, specs.States.state}
use Rattle.tick_laws.{specs.Reached.IsReached, proofs.CheckedUpdates.{none_parts, map_none}}

-- what a search for the first number that passes has passed over
passed_over : (p : ℕ → Bool) (a n k : ℕ) → find p (range_with_len a n) ≡ None → a ≤ k → k < a + n → p k ≡ false
passed_over p a zero k h low high = absurd (omega (arith, low, high))
passed_over p a (suc n) k h low high =
    (elim (p a) as (λ b. p a ≡ b → cond b (Some a) (find p (range_with_len (a + 1) n)) ≡ None → p k ≡ false) [
      | true ↦ λ e h. absurd (cc)
      | false ↦ λ e h. elim (cases_lt a k) [
        | inl more ↦ passed_over p (a + 1) n k h (omega (arith, more)) (omega (arith, high))
        | inr least ↦ let same : a ≡ k = omega (arith, least, low) in subst (λ j. p j ≡ false) same e
      ]
    ]) refl h

earlier_fail : (p : ℕ → Bool) (a n m k : ℕ) → find p (range_with_len a n) ≡ Some m → a ≤ k → k < m → p k ≡ false
earlier_fail p a zero m k h low high = absurd (cc)
earlier_fail p a (suc n) m k h low high =
    (elim (p a) as (λ b. p a ≡ b → cond b (Some a) (find p (range_with_len (a + 1) n)) ≡ Some m → p k ≡ false) [
      | true ↦ λ e h. let same : a ≡ m = cc in absurd (omega (arith, same, low, high))
      | false ↦ λ e h. elim (cases_lt a k) [
        | inl more ↦ earlier_fail p (a + 1) n m k h (omega (arith, more)) high
        | inr least ↦ let same : a ≡ k = omega (arith, least, low) in subst (λ j. p j ≡ false) same e
      ]
    ]) refl h

pub first_within : (p : ℕ → Bool) (a n m : ℕ) → find p (range_with_len a n) ≡ Some m → m < a + n
first_within p a zero m h = absurd (cc)
first_within p a (suc n) m h =
    (elim (p a) as (λ b. cond b (Some a) (find p (range_with_len (a + 1) n)) ≡ Some m → m < a + suc n) [
      | true ↦ λ h. let same : a ≡ m = cc in omega (arith, same)
      | false ↦ λ h. let rest = first_within p (a + 1) n m h in omega (arith, rest)
    ]) h

module _ (run : Run) where
  abbrev is_spoiled : ℕ → Bool
  is_spoiled step = is_some (spoiled_by run step)

  -- no step up to the last good one is spoiled
  record IsUnspoiled (last : ℕ) : Type 0 where
    within : last ≤ length run.batches
    unspoiled : (s : ℕ) → s ≤ last → is_spoiled s ≡ false

  unspoiled_to : (o : Option ℕ) → find is_spoiled (range_with_len 0 (length run.batches + 1)) ≡ o → (last : ℕ) → step_before (length run.batches) o ≡ Some last → IsUnspoiled last
  unspoiled_to None f last e =
      let same : length run.batches ≡ last = cc in
      record { within = omega (arith, same); unspoiled = λ s below. passed_over is_spoiled 0 (length run.batches + 1) s f (omega arith) (omega (arith, same, below)) }
  unspoiled_to (Some zero) f last e = absurd (cc)
  unspoiled_to (Some (suc step)) f last e =
      let same : step ≡ last = cc in
      record {
        within = let less = first_within is_spoiled 0 (length run.batches + 1) (suc step) f in omega (arith, same, less);
        unspoiled = λ s below. earlier_fail is_spoiled 0 (length run.batches + 1) (suc step) s f (omega arith) (omega (arith, same, below));
      }

  is_none : {X : Type 0} (o : Option X) → is_some o ≡ false → o ≡ None
  is_none None h = refl
  is_none (Some x) h = absurd (true≢false h)

  -- neither a batch nor a node spoils a step that is not spoiled
  not_by_batch : (s : ℕ) → is_spoiled s ≡ false → batch_fault run s ≡ None
  not_by_batch s h = map_none (λ broken. ByBatch broken.0 broken.1) (batch_fault run s) (none_parts (option_map (λ broken. ByBatch broken.0 broken.1) (batch_fault run s)) _ (is_none (spoiled_by run s) h)).0

  not_by_node : (s : ℕ) → is_spoiled s ≡ false → node_fault 0 (state run s) ≡ None
  not_by_node s h =
      (none_parts (node_fault 0 (state run s)) (publication_fault 0 (state run s) run.plan.published)
      (none_parts (option_map (λ broken. ByBatch broken.0 broken.1) (batch_fault run s)) _ (is_none (spoiled_by run s) h)).1).0

  last_good : (last : ℕ) → good run ≡ Some last → IsUnspoiled last
  last_good last e = unspoiled_to (first_spoiled run) refl last e

  pub good_within : (last : ℕ) → good run ≡ Some last → last ≤ length run.batches
  good_within last e = (last_good last e).within

  pub good_reached : (last : ℕ) → good run ≡ Some last → IsReached run last
  good_reached last e = record {
    batches = λ s below. not_by_batch s ((last_good last e).unspoiled s below);
    nodes = λ s below. not_by_node s ((last_good last e).unspoiled s below);
  }
