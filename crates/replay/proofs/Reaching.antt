-- A run reaches a step after the others, and it is good.
use Rattle.std.proofs.Common.{◌≡◌, refl, subst, ℕ, zero, suc, ◌+◌, ◌≤◌, arith, inl, inr, None}
use Rattle.std.proofs.lemmas.Bool.{cases_lt}
use Rattle.tick_model.{specs.declared.feed.Run.Run, specs.Sources.batch_fault, specs.Spoiled.node_fault, specs.States.state}
use Rattle.tick_laws.specs.Reached.{IsReached}
use Rattle.replay.specs.Standing.{IsGood, IsWithin}

-- what holds at a number holds at each up to it that is not below
at_first : (P : ℕ → Type 0) (s : ℕ) → s ≤ 0 → P 0 → P s
at_first P zero none here = here
at_first P (suc s) none here = absurd (omega (arith, none))

one_more : (P : ℕ → Type 0) (step s : ℕ) → ((k : ℕ) → k ≤ step → P k) → s ≤ step + 1 → P (step + 1) → P s
one_more P step s before within here =
    elim (cases_lt step s) [
      | inl past ↦ let same : step + 1 ≡ s = omega (arith, past, within) in subst P same here
      | inr not_past ↦ before s not_past
    ]

pub reached_first : (run : Run) → node_fault 0 (state run 0) ≡ None → IsReached run 0
reached_first run nodes = record {
  batches = λ s none. at_first (λ k. batch_fault run k ≡ None) s none refl;
  nodes = λ s none. at_first (λ k. node_fault 0 (state run k) ≡ None) s none nodes;
}

pub reached_more : (run : Run) (step : ℕ) → IsReached run step → batch_fault run (step + 1) ≡ None → node_fault 0 (state run (step + 1)) ≡ None → IsReached run (step + 1)
reached_more run step reached batch nodes = record {
  batches = λ s within. one_more (λ k. batch_fault run k ≡ None) step s reached.batches within batch;
  nodes = λ s within. one_more (λ k. node_fault 0 (state run k) ≡ None) step s reached.nodes within nodes;
}

pub good_first : (run : Run) → node_fault 0 (state run 0) ≡ None → IsWithin run 0 → IsGood run 0
good_first run nodes within = record { reached = reached_first run nodes; within = λ s none. at_first (IsWithin run) s none within }

pub good_more : (run : Run) (step : ℕ) → IsGood run step → batch_fault run (step + 1) ≡ None → node_fault 0 (state run (step + 1)) ≡ None → IsWithin run (step + 1) → IsGood run (step + 1)
good_more run step good batch nodes within = record {
  reached = reached_more run step good.reached batch nodes;
  within = λ s below. one_more (IsWithin run) step s good.within below within;
}
