-- Which step is the first that is spoiled, and which is the last good one.
use Rattle.std.proofs.Common.{add-one, ◌≡◌, refl, sym, ap, ◌∙◌, subst, ℕ, zero, suc, ◌+◌, ◌<◌, ◌≤◌, arith, inl, inr, Bool, true, false, length, [], Option, Some, None}
use Rattle.std.{specs.Prelude.{find, is_some, option_map}, specs.List.range_with_len, specs.Option.option_or, proofs.lemmas.Bool.{cases_lt, cond-true, cond-false}}
use Rattle.tick_model.{specs.declared.feed.Run.Run, specs.declared.table.NodeFault.NodeFault, specs.declared.update.FeedRule.FeedRule, specs.Sources.batch_fault, specs.Spoiled.{Cause, ByBatch, ByNode, ByPublication, first_spoiled, good, node_fault, publication_fault, spoiled_by, step_before}, specs.States.state}
use Rattle.update_graph.{specs.declared.stop.Stop.Stop, specs.declared.stop.Stop.TheVariants.{Memory, Feed, Node}, specs.Stops.IsStop}
use Rattle.replay.{specs.declared.outcome.Outcome.Outcome, specs.declared.outcome.Outcome.TheVariants.{Done, Memory as OutOfMemory, Kept, Feed as BadFeed, Node as BadNode, Publish, Write}, specs.Causes.{IsCause, IsPast}, specs.Outcomes.{IsEnd, IsFirstSpoiled, IsTold}, specs.Standing.{IsGood, IsWithin}, specs.Stopped.outcome_of_stop}

-- a search for the first number that passes
find_first : (p : ℕ → Bool) (a n m : ℕ) → ((k : ℕ) → a ≤ k → k < m → p k ≡ false) → a ≤ m → m < a + n → p m ≡ true → find p (range_with_len a n) ≡ Some m
find_first p a zero m before low high here = absurd (omega (arith, low, high))
find_first p a (suc n) m before low high here =
    elim (cases_lt a m) [
      | inl more ↦
          cond-false (p a) (Some a) (find p (range_with_len (a + 1) n)) (before a (omega arith) more)
          ∙ find_first p (a + 1) n m (λ k least below. before k (omega (arith, least)) below) (omega (arith, more)) (omega (arith, high)) here
      | inr least ↦
          let same : m ≡ a = omega (arith, least, low) in
          cond-true (p a) (Some a) (find p (range_with_len (a + 1) n)) (subst (λ k. p k ≡ true) same here) ∙ ap Some (sym same)
    ]

find_nothing : (p : ℕ → Bool) (a n : ℕ) → ((k : ℕ) → a ≤ k → k < a + n → p k ≡ false) → find p (range_with_len a n) ≡ None
find_nothing p a zero all = refl
find_nothing p a (suc n) all =
    cond-false (p a) (Some a) (find p (range_with_len (a + 1) n)) (all a (omega arith) (omega arith))
    ∙ find_nothing p (a + 1) n (λ k least below. all k (omega (arith, least)) (omega (arith, below)))

-- no step before this one is spoiled
abbrev pub AreGoodBefore : Run → ℕ → Type 0
AreGoodBefore run step = (k : ℕ) → k < step → spoiled_by run k ≡ None

module _ (run : Run) where
  abbrev is_spoiled : ℕ → Bool
  is_spoiled step = is_some (spoiled_by run step)

  abbrev by_publication : ℕ → Option Cause
  by_publication step = publication_fault 0 (state run step) run.plan.published

  pub by_batch : (step number : ℕ) (fault : FeedRule) → batch_fault run step ≡ Some (number, fault) → spoiled_by run step ≡ Some (ByBatch number fault)
  by_batch step number fault breaks =
      ap (λ (broken : Option (ℕ × FeedRule)). option_or (option_map (λ b. ByBatch b.0 b.1) broken) (option_or (node_fault 0 (state run step)) (by_publication step))) breaks

  pub by_node : (step node : ℕ) (kind : NodeFault) → batch_fault run step ≡ None → node_fault 0 (state run step) ≡ Some (ByNode node kind) → spoiled_by run step ≡ Some (ByNode node kind)
  by_node step node kind batch fails =
      ap (λ (broken : Option (ℕ × FeedRule)). option_or (option_map (λ b. ByBatch b.0 b.1) broken) (option_or (node_fault 0 (state run step)) (by_publication step))) batch
      ∙ ap (λ (cause : Option Cause). option_or cause (by_publication step)) fails

  pub first_is : (step : ℕ) (cause : Cause) → step ≤ length run.batches → AreGoodBefore run step → spoiled_by run step ≡ Some cause → first_spoiled run ≡ Some step
  first_is step cause within before here =
      find_first is_spoiled 0 (length run.batches + 1) step (λ k least below. ap is_some (before k below)) (omega arith) (omega (arith, within)) (ap is_some here)

  pub none_is : AreGoodBefore run (length run.batches + 1) → first_spoiled run ≡ None
  none_is before = find_nothing is_spoiled 0 (length run.batches + 1) (λ k least below. ap is_some (before k (omega (arith, below))))

  pub by_table : (step : ℕ) (cause : Cause) → batch_fault run step ≡ None → node_fault 0 (state run step) ≡ None → by_publication step ≡ Some cause → spoiled_by run step ≡ Some cause
  by_table step cause batch nodes past =
      ap (λ (broken : Option (ℕ × FeedRule)). option_or (option_map (λ b. ByBatch b.0 b.1) broken) (option_or (node_fault 0 (state run step)) (by_publication step))) batch
      ∙ ap (λ (found : Option Cause). option_or found (by_publication step)) nodes
      ∙ past

  pub not_spoiled : (step : ℕ) → batch_fault run step ≡ None → node_fault 0 (state run step) ≡ None → IsWithin run step → spoiled_by run step ≡ None
  not_spoiled step batch nodes within =
      ap (λ (broken : Option (ℕ × FeedRule)). option_or (option_map (λ b. ByBatch b.0 b.1) broken) (option_or (node_fault 0 (state run step)) (by_publication step))) batch
      ∙ ap (λ (cause : Option Cause). option_or cause (by_publication step)) nodes
      ∙ within

  pub good_before_next : (step : ℕ) → IsGood run step → AreGoodBefore run (step + 1)
  good_before_next step good k below =
      let within : k ≤ step = omega (arith, below) in
      not_spoiled k (good.reached.batches k within) (good.reached.nodes k within) (good.within k within)

  -- why the graph stops, and that a published table is past its limit, is what spoils the step
  pub stop_is_cause : (step : ℕ) (stop : Stop) → IsStop run step stop → IsTold (outcome_of_stop stop) → IsCause run step (outcome_of_stop stop)
  stop_is_cause step Memory is told = absurd told
  stop_is_cause step (Feed at number fault) is told = (is.0, by_batch step number fault is.1)
  stop_is_cause step (Node at node kind) is told = (is.0, by_node step node kind is.1 is.2)

  pub past_is_cause : (step : ℕ) (outcome : Outcome) → batch_fault run step ≡ None → node_fault 0 (state run step) ≡ None → IsPast run step outcome → IsCause run step outcome
  past_is_cause step (Done at records rows) batch nodes past = absurd past
  past_is_cause step OutOfMemory batch nodes past = absurd past
  past_is_cause step (Kept words) batch nodes past = absurd past
  past_is_cause step (BadFeed at number fault) batch nodes past = absurd past
  past_is_cause step (BadNode at node kind) batch nodes past = absurd past
  past_is_cause step (Publish at number rows limit) batch nodes past = (past.0, by_table step (ByPublication number rows) batch nodes past.1, past.2)
  past_is_cause step Write batch nodes past = absurd past

  -- where a step is spoiled and none before it, the run ends there
  first_with : (at step : ℕ) (cause : Cause) → at ≡ step → step ≤ length run.batches → AreGoodBefore run step → spoiled_by run step ≡ Some cause → IsFirstSpoiled run at cause
  first_with at step cause same within before here =
      subst (λ n. IsFirstSpoiled run n cause) (sym same) (record { first = first_is step cause within before here; by = here })

  pub cause_ends : (step : ℕ) (outcome : Outcome) → step ≤ length run.batches → AreGoodBefore run step → IsCause run step outcome → IsEnd run outcome
  cause_ends step (Done at records rows) within before is = absurd is
  cause_ends step OutOfMemory within before is = absurd is
  cause_ends step (Kept words) within before is = absurd is
  cause_ends step (BadFeed at number fault) within before is = first_with at step (ByBatch number fault) is.0 within before is.1
  cause_ends step (BadNode at node kind) within before is = first_with at step (ByNode node kind) is.0 within before is.1
  cause_ends step (Publish at number rows limit) within before is = (first_with at step (ByPublication number rows) is.0 within before is.1, is.2)
  cause_ends step Write within before is = absurd is

  pub cause_spoils : (step : ℕ) (outcome : Outcome) → step ≤ length run.batches → AreGoodBefore run step → IsCause run step outcome → first_spoiled run ≡ Some step
  cause_spoils step (Done at records rows) within before is = absurd is
  cause_spoils step OutOfMemory within before is = absurd is
  cause_spoils step (Kept words) within before is = absurd is
  cause_spoils step (BadFeed at number fault) within before is = first_is step (ByBatch number fault) within before is.1
  cause_spoils step (BadNode at node kind) within before is = first_is step (ByNode node kind) within before is.1
  cause_spoils step (Publish at number rows limit) within before is = first_is step (ByPublication number rows) within before is.1
  cause_spoils step Write within before is = absurd is

  -- the last good step
  pub last_at_end : AreGoodBefore run (length run.batches + 1) → good run ≡ Some (length run.batches)
  last_at_end before = ap (step_before (length run.batches)) (none_is before)

  pub last_before : (step : ℕ) → first_spoiled run ≡ Some (step + 1) → good run ≡ Some step
  last_before step first = ap (step_before (length run.batches)) (first ∙ ap Some (add-one step))

  pub none_good : first_spoiled run ≡ Some 0 → good run ≡ None
  none_good first = ap (step_before (length run.batches)) first

-- the same of a run and a step that are equal
pub within_there : (run : Run) (step : ℕ) (other : Run) (at : ℕ) → other ≡ run → at ≡ step → IsWithin other at → IsWithin run step
within_there run step other at same stands within = subst (λ (of : Run). IsWithin of step) same (subst (IsWithin other) stands within)

pub past_there : (run : Run) (step : ℕ) (other : Run) (at : ℕ) (outcome : Outcome) → other ≡ run → at ≡ step → IsPast other at outcome → IsPast run step outcome
past_there run step other at outcome same stands past = subst (λ (of : Run). IsPast of step outcome) same (subst (λ n. IsPast other n outcome) stands past)

pub cause_there : (run : Run) (step at : ℕ) (outcome : Outcome) → at ≡ step → IsCause run (at + 1) outcome → IsCause run (step + 1) outcome
cause_there run step at outcome stands cause = subst (λ n. IsCause run (n + 1) outcome) stands cause

-- neither is a failure of the sink
pub stop_no_write : (stop : Stop) → outcome_of_stop stop ≡ Write → ⊥
stop_no_write Memory is = cc
stop_no_write (Feed at number fault) is = cc
stop_no_write (Node at node kind) is = cc

pub past_no_write : (run : Run) (step : ℕ) (outcome : Outcome) → IsPast run step outcome → outcome ≡ Write → ⊥
past_no_write run step outcome past is = subst (IsPast run step) is past
