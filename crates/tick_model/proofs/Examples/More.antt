-- Updates of each operator, from small runs.
use Rattle.std.proofs.Common.{◌≡◌, refl, ◌-◌, ◌^◌, true, Box, Global, List, [], ◌∷◌, pos, negsuc}
use Rattle.tick_model.{specs.declared.feed.Batch.Batch, specs.declared.feed.Run.Run, specs.declared.plan.Op.TheVariants.{Source, Keep, View, Join, Agg, Merge, Sort, Head, AsOf}, specs.declared.plan.Agg.TheVariants.Sum, specs.declared.plan.Choice.TheVariants.Error, specs.declared.plan.Comparison.TheVariants.Gt, specs.declared.plan.Expr.{Cell, Number, Add'}, specs.declared.plan.Pred.Compare, specs.Tables.null, specs.States.tick, proofs.Examples.Rows.{a, r, s, t, step_of, long, node, empty, run_of, update, shown}}
use Rattle.std.specs.Int.{int_wrap}

-- a table of one column alone
abbrev alone : List Batch → Run
alone batches = run_of (node (long ∷ []) Source ∷ []) (empty 1 ∷ []) batches

-- a key that is removed and added again
abbrev again : Run
again = alone (step_of (t 0 [] [] (a 4 (pos 7 ∷ []) ∷ []) [] ∷ []) ∷ step_of (t 0 (r 4 4 ∷ []) [] (a 4 (pos 7 ∷ []) ∷ []) [] ∷ []) ∷ [])

removed_and_added : shown (tick again 2 0) ≡ (update (4 ∷ []) [] (4 ∷ []) [] [], a 4 (pos 7 ∷ []) ∷ [])
removed_and_added = refl

-- a row that is set to the cells that it has
abbrev same : Run
same = alone (step_of (t 0 [] [] (a 4 (pos 7 ∷ []) ∷ []) [] ∷ []) ∷ step_of (t 0 [] [] [] (a 4 (pos 7 ∷ []) ∷ []) ∷ []) ∷ [])

equal_cells_say_nothing : shown (tick same 2 0) ≡ (update [] [] [] [] [], [])
equal_cells_say_nothing = refl

-- a row that moves and does not pass any more
abbrev fails : Run
fails = run_of (node (long ∷ []) Source ∷ node (long ∷ []) (Keep 0 (Compare Gt (Cell 0) (Number (pos 10)))) ∷ []) (empty 1 ∷ [])
    (step_of (t 0 [] [] (a 1 (pos 20 ∷ []) ∷ []) [] ∷ []) ∷ step_of (t 0 [] (s 1 1 (pos 3) ∷ []) [] (a 4 (pos 5 ∷ []) ∷ []) ∷ []) ∷ [])

moved_and_fails : shown (tick fails 2 1) ≡ (update (1 ∷ []) [] [] [] [], [])
moved_and_fails = refl

-- a sort, descending
abbrev sorted : List Batch → Run
sorted batches = run_of (node (long ∷ []) Source ∷ node (long ∷ []) (Sort 0 (record { column = 0; descending = true } ∷ [])) ∷ []) (empty 1 ∷ [])
    (step_of (t 0 [] [] (a 0 (pos 5 ∷ []) ∷ a 1 (pos 20 ∷ []) ∷ []) [] ∷ []) ∷ batches)

sorted_opening : shown (tick (sorted []) 1 1) ≡ (update [] [] (0 ∷ 1 ∷ []) [] [], a 0 (pos 20 ∷ []) ∷ a 1 (pos 5 ∷ []) ∷ [])
sorted_opening = refl

sorted_between : shown (tick (sorted (step_of (t 0 [] [] (a 2 (pos 10 ∷ []) ∷ []) [] ∷ []) ∷ [])) 2 1) ≡ (update [] (s 1 1 (pos 1) ∷ []) (1 ∷ []) [] [], a 1 (pos 10 ∷ []) ∷ [])
sorted_between = refl

sorted_anew : shown (tick (sorted (step_of (t 0 [] [] [] (a 1 (pos 30 ∷ []) ∷ []) ∷ []) ∷ [])) 2 1) ≡ (update (0 ∷ []) [] (0 ∷ []) [] [], a 0 (pos 30 ∷ []) ∷ [])
sorted_anew = refl

-- sums by group
abbrev groups : Run
groups = run_of (node (long ∷ long ∷ []) Source ∷ node (long ∷ long ∷ []) (Agg 0 (0 ∷ []) (Sum 1 ∷ [])) ∷ []) (empty 2 ∷ [])
    (step_of (t 0 [] [] (a 0 (pos 0 ∷ pos 1 ∷ []) ∷ a 1 (pos 1 ∷ pos 2 ∷ []) ∷ a 2 (pos 0 ∷ pos 3 ∷ []) ∷ []) [] ∷ []) ∷ step_of (t 0 (r 0 0 ∷ []) [] [] [] ∷ []) ∷ [])

groups_opening : shown (tick groups 1 1) ≡ (update [] [] (0 ∷ 1 ∷ []) [] [], a 0 (pos 0 ∷ pos 4 ∷ []) ∷ a 1 (pos 1 ∷ pos 2 ∷ []) ∷ [])
unfolding int_wrap
groups_opening = refl

first_row_leaves : shown (tick groups 2 1) ≡ (update (0 ∷ []) [] (2 ∷ []) [] [], a 2 (pos 0 ∷ pos 3 ∷ []) ∷ [])
unfolding int_wrap
first_row_leaves = refl

-- a merge of two tables, of which the first outgrows its region
abbrev merged : Run
merged = run_of (node (long ∷ []) Source ∷ node (long ∷ []) Source ∷ node (long ∷ []) (Merge (0 ∷ 1 ∷ [])) ∷ []) (empty 1 ∷ empty 1 ∷ [])
    (step_of (t 0 [] [] (a 65535 (pos 1 ∷ []) ∷ []) [] ∷ t 1 [] [] (a 0 (pos 2 ∷ []) ∷ []) [] ∷ []) ∷ step_of (t 0 [] [] (a 65536 (pos 3 ∷ []) ∷ []) [] ∷ []) ∷ [])

second_region_moves : shown (tick merged 2 2) ≡ (update [] (s 65536 65536 (pos 65536) ∷ []) (65536 ∷ []) [] [], a 65536 (pos 3 ∷ []) ∷ [])
second_region_moves = refl

-- one table merged with itself
abbrev twice : Run
twice = run_of (node (long ∷ []) Source ∷ node (long ∷ []) (Merge (0 ∷ 0 ∷ [])) ∷ []) (empty 1 ∷ [])
    (step_of (t 0 [] [] (a 0 (pos 1 ∷ []) ∷ a 1 (pos 2 ∷ []) ∷ []) [] ∷ []) ∷ step_of (t 0 [] (s 1 1 (pos 1) ∷ []) [] [] ∷ []) ∷ [])

one_input_twice : shown (tick twice 2 1) ≡ (update [] (s 1 1 (pos 1) ∷ s 65537 65537 (pos 1) ∷ []) [] [] [], [])
one_input_twice = refl

-- a join whose match comes, changes and goes
abbrev joins : Run
joins = run_of (node (long ∷ []) Source ∷ node (long ∷ long ∷ []) Source ∷ node (long ∷ long ∷ []) (Join 0 1 (record { left = 0; right = 0 } ∷ []) (1 ∷ []) Error) ∷ []) (empty 1 ∷ empty 2 ∷ [])
    (step_of (t 0 [] [] (a 0 (pos 0 ∷ []) ∷ []) [] ∷ []) ∷ step_of (t 1 [] [] (a 5 (pos 0 ∷ pos 9 ∷ []) ∷ []) [] ∷ [])
    ∷ step_of (t 1 [] [] [] (a 5 (pos 0 ∷ pos 8 ∷ []) ∷ []) ∷ []) ∷ step_of (t 1 (r 5 5 ∷ []) [] [] [] ∷ []) ∷ [])

no_match : shown (tick joins 1 2) ≡ (update [] [] (0 ∷ []) [] [], a 0 (pos 0 ∷ null ∷ []) ∷ [])
no_match = refl

match_comes : shown (tick joins 2 2) ≡ (update [] [] [] (0 ∷ []) (1 ∷ []), a 0 (pos 0 ∷ pos 9 ∷ []) ∷ [])
match_comes = refl

match_changes : shown (tick joins 3 2) ≡ (update [] [] [] (0 ∷ []) (1 ∷ []), a 0 (pos 0 ∷ pos 8 ∷ []) ∷ [])
match_changes = refl

match_goes : shown (tick joins 4 2) ≡ (update [] [] [] (0 ∷ []) (1 ∷ []), a 0 (pos 0 ∷ null ∷ []) ∷ [])
match_goes = refl

-- a view and a sum that overflow
abbrev overflows : Box (Unit {0}) Global → Run
overflows p = run_of (node (long ∷ []) Source ∷ node (long ∷ long ∷ []) (View 0 (Add' p (Cell 0) p (Number (pos 1)) ∷ [])) ∷ node (long ∷ []) (Agg 0 [] (Sum 0 ∷ [])) ∷ []) (empty 1 ∷ [])
    (step_of (t 0 [] [] (a 0 (pos (2 ^ 63 - 1) ∷ []) ∷ a 1 (null ∷ []) ∷ []) [] ∷ []) ∷ step_of (t 0 [] [] (a 2 (pos 1 ∷ []) ∷ []) [] ∷ []) ∷ [])

overflow_is_null : (p : Box (Unit {0}) Global) → shown (tick (overflows p) 1 1) ≡ (update [] [] (0 ∷ 1 ∷ []) [] [], a 0 (pos (2 ^ 63 - 1) ∷ null ∷ []) ∷ a 1 (null ∷ null ∷ []) ∷ [])
unfolding int_wrap
overflow_is_null p = refl

sum_overflows_to_null : (p : Box (Unit {0}) Global) → shown (tick (overflows p) 2 2) ≡ (update [] [] [] (0 ∷ []) (0 ∷ []), a 0 (null ∷ []) ∷ [])
unfolding int_wrap
sum_overflows_to_null p = refl

-- the first rows
abbrev heads : Run
heads = run_of (node (long ∷ []) Source ∷ node (long ∷ []) (Head 0 2) ∷ []) (empty 1 ∷ [])
    (step_of (t 0 [] [] (a 0 (pos 1 ∷ []) ∷ a 1 (pos 2 ∷ []) ∷ a 2 (pos 3 ∷ []) ∷ []) [] ∷ []) ∷ step_of (t 0 (r 0 0 ∷ []) [] [] [] ∷ []) ∷ [])

head_takes_next : shown (tick heads 2 1) ≡ (update (0 ∷ []) [] (2 ∷ []) [] [], a 2 (pos 3 ∷ []) ∷ [])
head_takes_next = refl

-- two blocks of one table in one step
abbrev blocks : Run
blocks = alone (step_of (t 0 [] [] (a 0 (pos 1 ∷ []) ∷ a 1 (pos 2 ∷ []) ∷ []) [] ∷ [])
    ∷ step_of (t 0 (r 0 0 ∷ []) (s 1 1 (pos 4) ∷ []) (a 0 (pos 7 ∷ []) ∷ []) [] ∷ t 0 [] (s 5 5 (negsuc 1) ∷ []) (a 9 (pos 3 ∷ []) ∷ []) (a 0 (pos 8 ∷ []) ∷ []) ∷ []) ∷ [])

several : shown (tick blocks 2 0) ≡ (update (0 ∷ []) (s 1 1 (pos 2) ∷ []) (0 ∷ 9 ∷ []) [] [], a 0 (pos 8 ∷ []) ∷ a 9 (pos 3 ∷ []) ∷ [])
several = refl

-- as of: quotes of (symbol, time, price), and trades of (symbol, time)
abbrev quotes : Run
quotes = run_of (node (long ∷ long ∷ long ∷ []) Source ∷ node (long ∷ long ∷ []) Source ∷ node (long ∷ long ∷ long ∷ []) (AsOf 1 0 (record { left = 0; right = 0 } ∷ []) (record { left = 1; right = 1 }) (2 ∷ [])) ∷ []) (empty 3 ∷ empty 2 ∷ [])
    (step_of (t 0 [] [] (a 0 (pos 0 ∷ pos 10 ∷ pos 100 ∷ []) ∷ a 1 (pos 0 ∷ pos 20 ∷ pos 200 ∷ []) ∷ []) [] ∷ t 1 [] [] (a 0 (pos 0 ∷ pos 15 ∷ []) ∷ a 1 (pos 0 ∷ pos 5 ∷ []) ∷ []) [] ∷ [])
    ∷ step_of (t 0 [] [] (a 2 (pos 0 ∷ pos 12 ∷ pos 110 ∷ []) ∷ []) [] ∷ []) ∷ step_of (t 0 (r 0 0 ∷ r 2 2 ∷ []) [] [] [] ∷ []) ∷ [])

asof-1 : shown (tick quotes 1 2) ≡ (update [] [] (0 ∷ 1 ∷ []) [] [], a 0 (pos 0 ∷ pos 15 ∷ pos 100 ∷ []) ∷ a 1 (pos 0 ∷ pos 5 ∷ null ∷ []) ∷ [])
asof-1 = refl

asof-2 : shown (tick quotes 2 2) ≡ (update [] [] [] (0 ∷ []) (2 ∷ []), a 0 (pos 0 ∷ pos 15 ∷ pos 110 ∷ []) ∷ [])
asof-2 = refl

asof-3 : shown (tick quotes 3 2) ≡ (update [] [] [] (0 ∷ []) (2 ∷ []), a 0 (pos 0 ∷ pos 15 ∷ null ∷ []) ∷ [])
asof-3 = refl
