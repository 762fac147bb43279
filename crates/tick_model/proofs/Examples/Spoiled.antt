-- Runs that come to a spoiled step.
use Rattle.std.proofs.Common.{◌≡◌, refl, [], ◌∷◌, pos, Some}
use Rattle.tick_model.{specs.declared.feed.Run.Run, specs.declared.plan.Op.TheVariants.{Source, Join}, specs.declared.plan.Choice.TheVariants.Error, specs.declared.table.NodeFault.TheVariants.DuplicateRight, specs.declared.update.FeedRule.TheVariants.Update, specs.declared.update.UpdateFault.TheVariants.ShiftBreaks, specs.Spoiled.{ByBatch, ByNode, spoiled_by, good}, proofs.Examples.Rows.{a, s, t, step_of, long, node, empty, run_of}}

abbrev twins : Run
twins = run_of (node (long ∷ []) Source ∷ node (long ∷ long ∷ []) Source ∷ node (long ∷ long ∷ []) (Join 0 1 (record { left = 0; right = 0 } ∷ []) (1 ∷ []) Error) ∷ []) (empty 1 ∷ empty 2 ∷ [])
    (step_of (t 1 [] [] (a 1 (pos 0 ∷ pos 1 ∷ []) ∷ a 2 (pos 0 ∷ pos 2 ∷ []) ∷ []) [] ∷ []) ∷ step_of (t 0 [] [] (a 0 (pos 0 ∷ []) ∷ []) [] ∷ []) ∷ [])

duplicates : spoiled_by twins 2 ≡ Some (ByNode 2 (DuplicateRight 0 1 2))
duplicates = refl

last_step_before_duplicates : good twins ≡ Some 1
last_step_before_duplicates = refl

abbrev bumped : Run
bumped = run_of (node (long ∷ []) Source ∷ []) (empty 1 ∷ [])
    (step_of (t 0 [] [] (a 0 (pos 1 ∷ []) ∷ a 1 (pos 2 ∷ []) ∷ []) [] ∷ []) ∷ step_of (t 0 [] (s 0 0 (pos 1) ∷ []) [] [] ∷ []) ∷ [])

bump : spoiled_by bumped 2 ≡ Some (ByBatch 2 (Update (ShiftBreaks 0 1)))
bump = refl

last_step_before_bump : good bumped ≡ Some 1
last_step_before_bump = refl
