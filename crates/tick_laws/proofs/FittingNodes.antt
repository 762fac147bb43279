-- At each step of a lawful run, the rows of each node fit its columns, and its change is printable.
use Rattle.std.proofs.Common.{◌≡◌, ap, sym, ◌∙◌, subst, ℕ, zero, suc, ◌<◌, arith, true, false, List, [], ◌∷◌, length, get_or, None}
use Rattle.std.specs.List.{AllByRecursion}
use Rattle.tick_model.{specs.declared.feed.Run.Run, specs.declared.plan.Node.Node, specs.declared.table.PlainTable.PlainTable, specs.Tables.{IsTable, no_table}, specs.Changes.change_of, specs.Evaluation.{has_table, outcome_at, table_at, is_source, source_number}, specs.Operators.{inputs_of, result, fault_of}, specs.LawfulRuns.{IsLawfulRun, has_op_ranks}, specs.Plans.columns_at, specs.Printable.IsPrintable, specs.Sources.sources, specs.States.{state, tick}, specs.Numbers.HasOpNumbers}
use Rattle.key_lists.proofs.Every.{every_weaker}
use Rattle.tick_laws.{specs.Fitting.HasColumns, specs.Reached.{KeepsRules, IsReached}, proofs.EvalNodes.each_node_has, proofs.FittingResults.result_fits, proofs.LawfulPlans.columns_at-node, proofs.LawfulSources.{source_fits, sources_bounded}, proofs.Paired.no_node, proofs.PlanTables.{IsBounded, bounded_source, bounded_operator, lesser_nodes, fitting_columns}, proofs.PrintedChanges.change_printable, proofs.ReachedTables.{bounded_at, reached_tables}, proofs.RunTicks.lawful_ticks}

-- what holds of each node of a list holds of one of them
each_at : (P : Node → Type 0) (nodes : List Node) (n : ℕ) → AllByRecursion P nodes → n < length nodes → P (get_or nodes n no_node)
each_at P [] n h less = absurd (omega (arith, less))
each_at P (node ∷ nodes) zero h less = h.0
each_at P (node ∷ nodes) (suc n) h less = each_at P nodes n h.1 (omega (arith, less))

module _ (run : Run) (h : IsLawfulRun run) (step : ℕ) where
  abbrev nodes : List Node
  nodes = run.plan.nodes

  abbrev texts : ℕ
  texts = length run.texts

  record IsFitting (n : ℕ) (table : PlainTable) : Type 0 where
    bounded : IsBounded run.plan h.plan n table
    fits : HasColumns (columns_at nodes n) texts table

  fitting_source : KeepsRules run step → (n : ℕ) → n < length nodes → is_source (get_or nodes n no_node) ≡ true → IsFitting n (get_or (sources run step) (source_number nodes n) no_table)
  fitting_source rules n less is = record {
    bounded = bounded_source run.plan h.plan (sources run step) (sources_bounded run h step rules) n less is;
    fits = subst (λ columns. HasColumns columns texts (get_or (sources run step) (source_number nodes n) no_table)) (sym (columns_at-node nodes no_node n less)) (source_fits run h step rules n less is).fitting;
  }

  fitting_operator : (n : ℕ) → n < length nodes → is_source (get_or nodes n no_node) ≡ false → (table : ℕ → PlainTable) → AllByRecursion (λ i. IsFitting i (table i)) (inputs_of (get_or nodes n no_node).op)
      → fault_of (get_or nodes n no_node).op table ≡ None → IsFitting n (result (get_or nodes n no_node).op table)
  fitting_operator n less is table inputs fault =
      let op = (get_or nodes n no_node).op in
      record {
        bounded = bounded_operator run.plan h.plan n less is table (every_weaker (λ i. IsFitting i (table i)) (λ i. IsBounded run.plan h.plan i (table i)) (inputs_of op) (λ i f. f.bounded) inputs) fault;
        fits = result_fits texts (columns_at nodes) (columns_at nodes n) table op (fitting_columns run.plan h.plan n less)
            (each_at (λ (node : Node). has_op_ranks texts node.op ≡ true) nodes n h.ranks less) (each_at (λ (node : Node). HasOpNumbers node.op) nodes n h.numbers less)
            (every_weaker (λ i. IsFitting i (table i)) (λ i. IsTable (table i)) (inputs_of op) (λ i f. f.bounded.is_table) inputs)
            (every_weaker (λ i. IsFitting i (table i)) (λ i. HasColumns (columns_at nodes i) texts (table i)) (inputs_of op) (λ i f. f.fits) inputs);
      }

  pub node_fits : KeepsRules run step → (n : ℕ) → n < length nodes → has_table (outcome_at (state run step) n) ≡ true → HasColumns (columns_at nodes n) texts (table_at (state run step) n)
  node_fits rules n less has = (each_node_has nodes no_node (sources run step) (lesser_nodes run.plan h.plan) IsFitting (fitting_source rules) fitting_operator n less has).fits

  pub node_printable : IsReached run step → (n : ℕ) → n < length nodes → IsPrintable (columns_at nodes n) run.texts (change_of (tick run step n))
  node_printable r n less =
      let from = lawful_ticks run h step r n less in
      let has = (reached_tables run h step r).each n less in
      change_printable (columns_at nodes n) run.texts (tick run step n) from.is_tick
      (ap (λ (table : PlainTable). table.width) from.new_is ∙ (bounded_at run h step r.batches n less has).width_is)
      (subst (HasColumns (columns_at nodes n) texts) (sym from.new_is) (node_fits r.batches n less has))
