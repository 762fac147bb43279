-- What is kept of the nodes follows what was kept of them the step before: what was read in the earlier steps stands as it was.
use Rattle.std.proofs.Common.{◌≡◌, refl, ap, sym, ◌∙◌, subst, ℕ, zero, suc, ◌<◌, arith, true, false, true≢false, List, [], ◌∷◌, ◌++◌, map, length, get_or, None}
use Rattle.std.{proofs.lemmas.List.get_or-map, specs.Prelude.{IfOk, Result, Ok, Err}}
use mathlib.Core.Option.{some-injective, some-ne-none}
use Rattle.graph_words.{specs.declared.graph.ClaimPlan.ClaimPlan, specs.Rule.{FollowsGiven, IsGiven}}
use Rattle.tick_laws.proofs.ReachedTables.{reached_tables}
use Rattle.tick_model.{specs.declared.feed.Run.Run, specs.Spoiled.node_fault, specs.States.state}
use Rattle.update_graph.{specs.Entered.IsEntered, specs.Graphs.SteppedOnce, specs.Stands.{Follows, ForEach, HasReadOnce, is_defined}, specs.Sweeps.GrowsBy, specs.Tags.{Kept, Tag, all_reads, is_operator, named, tag, tags}, proofs.ClaimedWorks.{count_works, whole_works, work_at}, proofs.PlanEdges.item_there, proofs.Sweeping.reached_here}

-- the first step
pub one_read : (reads : List ℕ) → length reads ≡ 1 → HasReadOnce [] reads
one_read [] h = absurd (omega (arith, h))
one_read (count ∷ []) h = (count, refl)
one_read (count ∷ next ∷ others) h = absurd (omega (arith, h))

-- a work that is of a node at a step
module _ (run : Run) (step node : ℕ) where
  follows_by : (old new : Kept) → named new ≡ tag run step node → (is_defined run step node ≡ true → HasReadOnce old.reads new.reads) → Follows old new
  follows_by old new same h is defined = h (subst (λ (t : Tag). is_defined t.run t.step t.node ≡ true) same defined)

  pub follows_ok : {E : Type 0} (found : Result (Kept × Tag) E) (old : Kept) (reads : List ℕ) → IfOk found (λ out. named out.0 ≡ tag run step node) → reads ≡ old.reads → IfOk found (λ out. is_defined run step node ≡ true → HasReadOnce reads out.0.reads) → IfOk found (λ out. Follows old out.0)
  follows_ok (Ok out) old reads same own once = follows_by old out.0 same (subst (λ reads. is_defined run step node ≡ true → HasReadOnce reads out.0.reads) own once)
  follows_ok (Err error) old reads same own once = tt

  pub source_is : (new : Kept) → named new ≡ tag run step node → is_operator run node ≡ false → is_operator new.run new.node ≡ false
  source_is new same none = ap (λ (t : Tag). is_operator t.run t.node) same ∙ none

pub source_follows : (old new : Kept) → is_operator new.run new.node ≡ false → Follows old new
source_follows old new none is = absurd (true≢false (sym is ∙ none))

-- a work follows the one that was given, which is the one that was taken
pub follows_taken : (plan : ClaimPlan Kept) (n : ℕ) (work new : Kept) → IsGiven plan n work → Follows work new → FollowsGiven Follows plan n new
follows_taken plan n work new taken follows old given = subst (λ (w : Kept). Follows w new) (some-injective work old (sym taken ∙ given)) follows

-- one more of each list
module _ (Holds : Kept → Kept → Type 0) where
  both_more : (olds news : List Kept) (old new : Kept) → length olds ≡ length news → ForEach Holds olds news → Holds old new → ForEach Holds (olds ++ old ∷ []) (news ++ new ∷ [])
  both_more [] [] old new long each h zero a b at_a at_b = subst (λ x. Holds x b) (some-injective old a at_a) (subst (Holds old) (some-injective new b at_b) h)
  both_more [] [] old new long each h (suc n) a b at_a at_b = absurd (some-ne-none a (sym at_a))
  both_more [] (y ∷ ys) old new long each h n a b at_a at_b = absurd (omega (arith, long))
  both_more (x ∷ xs) [] old new long each h n a b at_a at_b = absurd (omega (arith, long))
  both_more (x ∷ xs) (y ∷ ys) old new long each h zero a b at_a at_b = each zero a b at_a at_b
  both_more (x ∷ xs) (y ∷ ys) old new long each h (suc n) a b at_a at_b = both_more xs ys old new (omega (arith, long)) (λ k. each (suc k)) h n a b at_a at_b

  pub each_more : (olds news more : List Kept) (old : Kept) → length olds ≡ length news → ForEach Holds olds news → GrowsBy (Holds old) news more → ForEach Holds (olds ++ old ∷ []) more
  each_more olds news more old long each grown = subst (ForEach Holds (olds ++ old ∷ [])) (sym grown.2) (both_more olds news old grown.0 long each grown.1)

  pub each_none : (news : List Kept) → ForEach Holds [] news
  each_none news n old new at_old at_new = absurd (some-ne-none old (sym at_old))

-- each operator has taken exactly one step more, where all nodes have tables
pub all_once : (run : Run) (step : ℕ) (olds news : List Kept) → IsEntered run step → node_fault 0 (state run step) ≡ None → length olds ≡ length run.plan.nodes → map named news ≡ tags run step (length run.plan.nodes) → ForEach Follows olds news
    → SteppedOnce run (all_reads olds) (all_reads news)
all_once run step olds news entered fine long own follows node within is =
    let many = count_works run step (length run.plan.nodes) news own in
    let none : Kept = record { run = run; node = 0; step = 0; reads = [] } in
    let old = get_or olds node none in
    let new = get_or news node none in
    let old_there : node < length olds = omega (arith, long, within) in
    let new_there : node < length news = omega (arith, many, within) in
    let at_new = item_there news node none new_there in
    let name = work_at run step news node new (whole_works run step (length run.plan.nodes) news own) at_new in
    let once = follows node old new (item_there olds node none old_there) at_new
    (subst (λ (t : Tag). is_operator t.run t.node ≡ true) (sym name) is)
    (subst (λ (t : Tag). is_defined t.run t.step t.node ≡ true) (sym name) ((reached_tables run entered.lawful step (reached_here run step entered fine)).each node within)) in
    (once.0, get_or-map (λ (w : Kept). w.reads) news node none [] new_there ∙ once.1 ∙ ap (λ reads. reads ++ once.0 ∷ []) (sym (get_or-map (λ (w : Kept). w.reads) olds node none [] old_there)))
