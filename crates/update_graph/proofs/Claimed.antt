-- What is known of claims for a step of a run.
use Rattle.std.proofs.Common.{◌≡◌, ap, sym, ◌∙◌, subst, ℕ, ◌+◌, ◌^◌, ◌<◌, arith, Bool, true, false, not, List, map, length, get_or}
use Rattle.std.proofs.lemmas.List.{get_or_default}
use mathlib.Core.Option.{some}
use lib.ListN.{get_elem?}
use Rattle.graph_words.{specs.declared.graph.Edge.Edge, specs.declared.graph.ClaimPlan.ClaimPlan, specs.Marks.inputs}
use Rattle.tick_model.{specs.declared.feed.Run.Run, specs.declared.plan.Node.Node, specs.Evaluation.is_source, specs.Operators.inputs_of}
use Rattle.update_graph.{specs.Crews.StepView, specs.Edges.{edges_of, froms_to}, specs.Entered.IsEntered, specs.Holdings.{IsClaimed, IsForStep}, specs.Tags.{Kept, Tag, is_operator, named, no_node, op_at, tag}, proofs.ClaimedWorks.as_tag, proofs.PlanEdges.{edge_ends, edge_into, few_edges, goes_to_operator, input_froms, no_inputs}, proofs.PlanLimits.few_nodes}

-- claims for a step of a run
module _ (run : Run) (plan : ClaimPlan Kept) (s : IsForStep run plan) where
  pub few_of_step : length plan.edges.items < 2 ^ 32
  few_of_step = subst (λ l. length l < 2 ^ 32) (sym s.edges) (few_edges run s.entered.lawful)

  pub ends_of_step : (e : ℕ) (x : Edge) → get_elem? plan.edges.items e ≡ some x → (x.from < x.to) × (x.to < length run.plan.nodes)
  ends_of_step e x there = edge_ends run s.entered.lawful e x (ap (λ l. get_elem? l e) (sym s.edges) ∙ there)

  pub small_of_step : (e : ℕ) (x : Edge) → get_elem? plan.edges.items e ≡ some x → x.to < 256
  small_of_step e x there =
      let below = (ends_of_step e x there).1 in
      let most = few_nodes run s.entered.lawful in
      omega (arith, below, most)

  pub goes_of_step : (e : ℕ) (x : Edge) → get_elem? plan.edges.items e ≡ some x → is_operator run x.to ≡ true
  goes_of_step e x there = goes_to_operator run s.entered.lawful e x (ap (λ l. get_elem? l e) (sym s.edges) ∙ there)

  -- a node with input edges
  pub within_of_step : (n : ℕ) → 0 < inputs n plan.edges.items → n < length run.plan.nodes
  within_of_step n some_in =
      let into = edge_into n plan.edges.items some_in in
      subst (λ k. k < length run.plan.nodes) into.3 (ends_of_step into.0 into.1 into.2).1

  pub operator_of_step : (n : ℕ) → 0 < inputs n plan.edges.items → is_operator run n ≡ true
  operator_of_step n some_in =
      let into = edge_into n plan.edges.items some_in in
      subst (λ k. is_operator run k ≡ true) into.3 (goes_of_step into.0 into.1 into.2)

  froms_of_step : (n : ℕ) → n < length run.plan.nodes → froms_to n plan.edges.items ≡ inputs_of (op_at run n)
  froms_of_step n within = ap (froms_to n) s.edges ∙ input_froms run s.entered.lawful n within

  -- what is taken
  pub work_taken : (work : Kept) (n : ℕ) → work.run ≡ plan.first.value.run → work.node ≡ n → work.step ≡ plan.first.value.step → named work ≡ tag run plan.first.value.step n
  work_taken work n of_run of_node of_step = as_tag (named work) run plan.first.value.step n (of_run ∙ s.of_run) of_node of_step

  pub shares_taken : (shares : List Tag) (n : ℕ) → n < length run.plan.nodes → shares ≡ map (tag plan.first.value.run (plan.first.value.step + 1)) (froms_to n plan.edges.items) → shares ≡ map (tag run (plan.first.value.step + 1)) (inputs_of (op_at run n))
  shares_taken shares n within same =
      same
      ∙ ap (λ (l : List ℕ). map (tag plan.first.value.run (plan.first.value.step + 1)) l) (froms_of_step n within)
      ∙ ap (λ r. map (tag r (plan.first.value.step + 1)) (inputs_of (op_at run n))) s.of_run

  -- what is put back
  pub next_tagged : (next : Kept) (n : ℕ) → named next ≡ tag run (plan.first.value.step + 1) n → (next.run ≡ plan.first.value.run) × (next.node ≡ n) × (next.step ≡ plan.first.value.step + 1)
  next_tagged next n same = (ap (λ (t : Tag). t.run) same ∙ sym s.of_run, ap (λ (t : Tag). t.node) same, ap (λ (t : Tag). t.step) same)

-- what the hands of a crew work by is for the step of the claims
pub step_of_view : (plan : ClaimPlan Kept) {own : Run} {step : ℕ} {edges : List Edge} {view : StepView} → record { run = own; step = step; edges = edges } ≡ view → IsEntered own step × (edges ≡ edges_of own.plan)
    → plan.first.value.run ≡ view.run → plan.first.value.step + 1 ≡ view.step → plan.edges.items ≡ view.edges → IsForStep own plan
step_of_view plan {own} seen work run_is step_is edges_is =
    record {
      entered = subst (IsEntered own) (sym (step_is ∙ sym (ap (λ (v : StepView). v.step) seen))) work.0;
      of_run = run_is ∙ sym (ap (λ (v : StepView). v.run) seen);
      edges = edges_is ∙ sym (ap (λ (v : StepView). v.edges) seen) ∙ work.1;
    }

module _ (run : Run) (plan : ClaimPlan Kept) (c : IsClaimed run plan) where
  pub run_is : plan.first.value.run ≡ run
  run_is = ap (λ (t : Tag). t.run) c.first

  pub step_of_claims : IsForStep run plan
  step_of_claims = record { entered = c.entered; of_run = run_is; edges = c.edges }

  pub few_claimed : length plan.edges.items < 2 ^ 32
  few_claimed = few_of_step run plan step_of_claims

  pub node_within : (n : ℕ) → n < plan.nodes → n < length run.plan.nodes
  node_within n within = subst (λ k. n < k) c.nodes within

  pub ends_claimed : (e : ℕ) (x : Edge) → get_elem? plan.edges.items e ≡ some x → (x.from < x.to) × (x.to < plan.nodes)
  ends_claimed e x there =
      let ends = ends_of_step run plan step_of_claims e x there in
      (ends.0, subst (λ k. x.to < k) (sym c.nodes) ends.1)

  pub source_claimed : (n : ℕ) → n < plan.nodes → inputs n plan.edges.items ≡ 0 → is_operator run n ≡ false
  source_claimed n within none = no_inputs run c.entered.lawful n (node_within n within) (sym (ap (inputs n) c.edges) ∙ none)

-- whether a node has an operator
pub operator_is : (run : Run) (n : ℕ) (own : Node) (b : Bool) → n < length run.plan.nodes → own ≡ get_or run.plan.nodes n own → b ≡ is_source own → is_operator run n ≡ not b
operator_is run n own b within there is = ap (λ (x : Node). not (is_source x)) (sym (there ∙ get_or_default run.plan.nodes n own no_node within)) ∙ ap not (sym is)
