-- Joins that choose a match, an as-of join of equal times, and steps of several blocks.
use Rattle.std.proofs.Common.{◌≡◌, refl, [], ◌∷◌, pos, Some}
use Rattle.tick_model.{specs.declared.feed.Run.Run, specs.declared.plan.Choice.Choice, specs.declared.plan.Choice.TheVariants.{First, Last}, specs.declared.plan.Op.TheVariants.{Source, Join, AsOf}, specs.Tables.null, specs.declared.update.FeedRule.TheVariants.Update, specs.declared.update.UpdateFault.TheVariants.AddedTaken, specs.Spoiled.{ByBatch, spoiled_by}, specs.States.tick, proofs.Examples.Rows.{a, r, t, step_of, long, node, empty, run_of, update, shown}}

abbrev twins : Choice → Run
twins choice = run_of (node (long ∷ []) Source ∷ node (long ∷ long ∷ []) Source ∷ node (long ∷ long ∷ []) (Join 0 1 (record { left = 0; right = 0 } ∷ []) (1 ∷ []) choice) ∷ []) (empty 1 ∷ empty 2 ∷ [])
    (step_of (t 1 [] [] (a 1 (pos 0 ∷ pos 1 ∷ []) ∷ a 2 (pos 0 ∷ pos 2 ∷ []) ∷ []) [] ∷ []) ∷ step_of (t 0 [] [] (a 0 (pos 0 ∷ []) ∷ []) [] ∷ []) ∷ step_of (t 1 (r 1 1 ∷ []) [] [] [] ∷ []) ∷ [])

first_taken : shown (tick (twins First) 2 2) ≡ (update [] [] (0 ∷ []) [] [], a 0 (pos 0 ∷ pos 1 ∷ []) ∷ [])
first_taken = refl

first_gone : shown (tick (twins First) 3 2) ≡ (update [] [] [] (0 ∷ []) (1 ∷ []), a 0 (pos 0 ∷ pos 2 ∷ []) ∷ [])
first_gone = refl

last_taken : shown (tick (twins Last) 2 2) ≡ (update [] [] (0 ∷ []) [] [], a 0 (pos 0 ∷ pos 2 ∷ []) ∷ [])
last_taken = refl

abbrev equal_times : Run
equal_times = run_of (node (long ∷ long ∷ long ∷ []) Source ∷ node (long ∷ long ∷ []) Source ∷ node (long ∷ long ∷ long ∷ []) (AsOf 1 0 (record { left = 0; right = 0 } ∷ []) (record { left = 1; right = 1 }) (2 ∷ [])) ∷ []) (empty 3 ∷ empty 2 ∷ [])
    (step_of (t 0 [] [] (a 0 (pos 0 ∷ pos 10 ∷ pos 100 ∷ []) ∷ a 1 (pos 0 ∷ pos 10 ∷ pos 150 ∷ []) ∷ []) [] ∷ t 1 [] [] (a 0 (pos 0 ∷ pos 10 ∷ []) ∷ a 1 (pos 1 ∷ pos 10 ∷ []) ∷ []) [] ∷ []) ∷ [])

greatest_key : shown (tick equal_times 1 2) ≡ (update [] [] (0 ∷ 1 ∷ []) [] [], a 0 (pos 0 ∷ pos 10 ∷ pos 150 ∷ []) ∷ a 1 (pos 1 ∷ pos 10 ∷ null ∷ []) ∷ [])
greatest_key = refl

-- a row that comes and goes in one step, and one that changes there and back
abbrev comes_and_goes : Run
comes_and_goes = run_of (node (long ∷ []) Source ∷ []) (empty 1 ∷ []) (step_of (t 0 [] [] (a 5 (pos 1 ∷ []) ∷ []) [] ∷ t 0 (r 5 5 ∷ []) [] [] [] ∷ []) ∷ [])

nothing_left : shown (tick comes_and_goes 1 0) ≡ (update [] [] [] [] [], [])
nothing_left = refl

abbrev there_and_back : Run
there_and_back = run_of (node (long ∷ []) Source ∷ []) (empty 1 ∷ []) (step_of (t 0 [] [] (a 0 (pos 1 ∷ []) ∷ []) [] ∷ []) ∷ step_of (t 0 [] [] [] (a 0 (pos 2 ∷ []) ∷ []) ∷ t 0 [] [] [] (a 0 (pos 1 ∷ []) ∷ []) ∷ []) ∷ [])

nothing_changed : shown (tick there_and_back 2 0) ≡ (update [] [] [] [] [], [])
nothing_changed = refl

abbrev twice : Run
twice = run_of (node (long ∷ []) Source ∷ []) (empty 1 ∷ []) (step_of (t 0 [] [] (a 0 (pos 1 ∷ []) ∷ []) [] ∷ t 0 [] [] (a 0 (pos 2 ∷ []) ∷ []) [] ∷ []) ∷ [])

second_block : spoiled_by twice 1 ≡ Some (ByBatch 2 (Update (AddedTaken 0)))
second_block = refl
