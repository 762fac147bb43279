-- At each step that a lawful run reaches, every node has a table.
use Rattle.std.proofs.Common.{◌≡◌, refl, ap, sym, ◌∙◌, subst, ℕ, zero, suc, ◌+◌, ◌<◌, ◌≤◌, inl, inr, arith, Bool, true, false, true≢false, List, [], ◌∷◌, length, get_or, Option, Some, None}
use Rattle.std.{specs.Prelude.slice_index, specs.List.{list_all, AllByRecursion}, proofs.lemmas.Bool.cases_lt, proofs.lemmas.List.get_or_past}
use Rattle.tick_model.{specs.declared.feed.Run.Run, specs.declared.plan.Node.Node, specs.declared.plan.Op.Op, specs.declared.plan.Plan.Plan, specs.declared.table.NodeFault.NodeFault, specs.declared.table.PlainTable.PlainTable, specs.Tables.{IsTable, no_table}, specs.Evaluation.{Outcome, Table, Fault, NoInput, eval, has_table, table_of, table_at, outcome_at, or_fault, applied, source_number}, specs.Operators.{inputs_of, result, fault_of}, specs.LawfulRuns.IsLawfulRun, specs.Plans.{columns_at, is_lawful, key_bounds}, specs.Sources.sources, specs.Spoiled.node_fault, specs.States.{state, HaveTables, HasLesserInputs}}
use Rattle.key_lists.proofs.Every.{every_weaker, pass_all}
use Rattle.tick_laws.{specs.Bounded.IsNodeTable, specs.Reached.{KeepsRules, IsReached}, proofs.EvalNodes.{outcome_cases, length_outcomes, outcome_is}, proofs.Grown.by_lesser, proofs.LawfulPlans.lawful_plan, proofs.LawfulSources.sources_bounded, proofs.Paired.no_node, proofs.PlanTables.plan_tables}

-- the inputs of a node of a lawful plan are lesser
pub lesser_inputs : (plan : Plan) → is_lawful plan ≡ true → HasLesserInputs plan
lesser_inputs plan h n d less = ((lawful_plan plan d h).nodes n less).lesser

abbrev is_fault : Outcome → Bool
is_fault (Table table) = false
is_fault (Fault fault) = true
is_fault NoInput = false

no_fault_at : (k : ℕ) (outcomes : List Outcome) (n : ℕ) → node_fault k outcomes ≡ None → is_fault (get_or outcomes n NoInput) ≡ false
no_fault_at k [] n h = refl
no_fault_at k (Table table ∷ outcomes) zero h = refl
no_fault_at k (Table table ∷ outcomes) (suc n) h = no_fault_at (k + 1) outcomes n h
no_fault_at k (Fault fault ∷ outcomes) n h = absurd (cc)
no_fault_at k (NoInput ∷ outcomes) zero h = refl
no_fault_at k (NoInput ∷ outcomes) (suc n) h = no_fault_at (k + 1) outcomes n h

-- an operator whose inputs have tables has one, or a fault
applied_to_tables : (op : Op) (done : List Outcome) → AllByRecursion (λ input. has_table (outcome_at done input) ≡ true) (inputs_of op) → is_fault (applied op done) ≡ false → has_table (applied op done) ≡ true
applied_to_tables op done h fine = go (list_all (λ input. has_table (outcome_at done input)) (inputs_of op)) (pass_all (λ input. has_table (outcome_at done input)) (inputs_of op) h) (fault_of op (table_at done)) fine
  where
    go : (b : Bool) → b ≡ true → (fault : Option NodeFault) → is_fault (elim b [ true ↦ or_fault fault (result op (table_at done)) | false ↦ NoInput ]) ≡ false → has_table (elim b [ true ↦ or_fault fault (result op (table_at done)) | false ↦ NoInput ]) ≡ true
    go true e None f = refl
    go true e (Some fault) f = absurd (true≢false f)
    go false e fault f = absurd (true≢false (sym e))

module _ (plan : Plan) (sources : List PlainTable) (lawful : is_lawful plan ≡ true) (fine : node_fault 0 (eval plan sources) ≡ None) where
  abbrev nodes : List Node
  nodes = plan.nodes

  abbrev O : List Outcome
  O = eval plan sources

  pub tables_all : (n : ℕ) → n < length nodes → has_table (get_or O n NoInput) ≡ true
  tables_all = by_lesser (λ n. n < length nodes → has_table (get_or O n NoInput) ≡ true) (λ n before within.
      let is = outcome_is nodes no_node sources (λ n. lesser_inputs plan lawful n no_node) n within in
      let op = (get_or nodes n no_node).op in
      elim (outcome_cases op (get_or sources (source_number nodes n) no_table) O) [
        | inl own ↦ ap has_table (is ∙ own.1)
        | inr by_inputs ↦
            ap has_table (is ∙ by_inputs.1)
            ∙ applied_to_tables op O
            (every_weaker (λ input. input < n) (λ input. has_table (outcome_at O input) ≡ true) (inputs_of op) (λ input below. before input below (omega (arith, below, within))) (lesser_inputs plan lawful n no_node within))
            (ap is_fault (sym (is ∙ by_inputs.1)) ∙ no_fault_at 0 O n fine)
      ])

-- past the last node there is no table
past_last : (outcomes : List Outcome) (n : ℕ) → length outcomes ≤ n → IsTable (table_at outcomes n)
past_last outcomes n h = subst (λ (o : Outcome). IsTable (table_of o)) (sym (get_or_past outcomes n NoInput h)) (record { rows = tt; rising = tt })

module _ (run : Run) (h : IsLawfulRun run) where
  pub bounded_at : (step : ℕ) → KeepsRules run step → (n : ℕ) → n < length run.plan.nodes → has_table (outcome_at (state run step) n) ≡ true
      → IsNodeTable (length (columns_at run.plan.nodes n)) (slice_index (key_bounds run.plan.nodes) n) (table_at (state run step) n)
  bounded_at step fine = plan_tables run.plan (sources run step) h.plan (sources_bounded run h step fine)

  pub reached_tables : (step : ℕ) → IsReached run step → HaveTables run.plan (state run step)
  reached_tables step r = record {
    each = all;
    tables = λ n. elim (cases_lt n (length run.plan.nodes)) [
      | inl less ↦ (bounded_at step r.batches n less (all n less)).is_table
      | inr more ↦ past_last (state run step) n (omega (arith, more, length_outcomes run.plan.nodes no_node (sources run step)))
    ];
  }
    where
      all : (n : ℕ) → n < length run.plan.nodes → has_table (outcome_at (state run step) n) ≡ true
      all = tables_all run.plan (sources run step) h.plan (r.nodes step (omega arith))
