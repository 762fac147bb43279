-- In a lawful plan, each node's table stays within its bounds.
use Rattle.std.proofs.Common.{◌≡◌, refl, ap, sym, ◌∙◌, subst, ℕ, ◌<◌, ◌^◌, arith, true, false, true≢false, List, [], ◌∷◌, length, get_or, None}
use Rattle.std.{specs.Prelude.slice_index, specs.List.AllByRecursion}
use Rattle.tick_model.{specs.declared.plan.Node.Node, specs.declared.plan.Op.Op, specs.declared.plan.Op.TheVariants.Source, specs.declared.plan.Plan.Plan, specs.declared.table.PlainTable.PlainTable, specs.Evaluation.{eval, has_table, outcome_at, table_at, is_source, source_number}, specs.Operators.{inputs_of, result, fault_of, columns_fit, bound_of, is_source_op}, specs.Tables.no_table, specs.LawfulRuns.sources_of, specs.Plans.{is_lawful, columns_at, key_bounds}}
use Rattle.key_lists.proofs.Every.{every_weaker}
use Rattle.tick_laws.{specs.Bounded.{IsNodeTable, AreSourceTables}, proofs.EvalNodes.each_node_has, proofs.LawfulPlans.{IsBound, IsLawfulPlan, lawful_plan, columns_at-node, bound_is, bound_room, each_bound}, proofs.NodeTables.node_table, proofs.Paired.{no_node, Paired, paired_at, source_there}}

paired_tables : (sources : List Node) (tables : List PlainTable) → AreSourceTables sources tables → Paired (λ source table. IsNodeTable (length source.columns) (2 ^ 40) table) sources tables
paired_tables [] [] h = tt
paired_tables [] (table ∷ tables) h = h
paired_tables (source ∷ sources) [] h = h
paired_tables (source ∷ sources) (table ∷ tables) h = (h.0, paired_tables sources tables h.1)

-- the table of a source stands at its number among the sources
source_table : (nodes : List Node) (tables : List PlainTable) (n : ℕ) → AreSourceTables (sources_of nodes) tables → n < length nodes → is_source (get_or nodes n no_node) ≡ true
    → IsNodeTable (length (get_or nodes n no_node).columns) (2 ^ 40) (get_or tables (source_number nodes n) no_table)
source_table nodes tables n h less is =
    let there = source_there nodes n less is in
    subst (λ (node : Node). IsNodeTable (length node.columns) (2 ^ 40) (get_or tables (source_number nodes n) no_table)) there.1
    (paired_at (λ source table. IsNodeTable (length source.columns) (2 ^ 40) table) (sources_of nodes) tables (source_number nodes n) (paired_tables (sources_of nodes) tables h) there.0)

-- the bound of a source
source_bound : (node : Node) (bound : ℕ → ℕ) → is_source node ≡ true → 2 ^ 40 ≡ bound_of node.op bound
source_bound node bound = go node.op
  where
    go : (op : Op) → is_source_op op ≡ true → 2 ^ 40 ≡ bound_of op bound
    go Source e = refl
    go op e = absurd (true≢false (sym e))

module _ (plan : Plan) (lawful : is_lawful plan ≡ true) where
  l : IsLawfulPlan plan no_node
  l = lawful_plan plan no_node lawful

  abbrev nodes : List Node
  nodes = plan.nodes

  abbrev bound : ℕ → ℕ
  bound = slice_index (key_bounds nodes)

  -- a node's table within its bounds
  abbrev pub IsBounded : ℕ → PlainTable → Type 0
  IsBounded n table = IsNodeTable (length (columns_at nodes n)) (bound n) table

  pub bounded_source : (sources : List PlainTable) → AreSourceTables (sources_of nodes) sources → (n : ℕ) → n < length nodes → is_source (get_or nodes n no_node) ≡ true → IsBounded n (get_or sources (source_number nodes n) no_table)
  bounded_source sources tables n less is =
      subst (λ columns. IsNodeTable (length columns) (bound n) (get_or sources (source_number nodes n) no_table)) (sym (columns_at-node nodes no_node n less))
      (subst (λ b. IsNodeTable (length (get_or nodes n no_node).columns) b (get_or sources (source_number nodes n) no_table)) (source_bound (get_or nodes n no_node) bound is ∙ sym (bound_is plan no_node l n less))
      (source_table nodes sources n tables less is))

  pub bounded_operator : (n : ℕ) → n < length nodes → is_source (get_or nodes n no_node) ≡ false → (table : ℕ → PlainTable) → AllByRecursion (λ i. IsBounded i (table i)) (inputs_of (get_or nodes n no_node).op)
      → fault_of (get_or nodes n no_node).op table ≡ None → IsBounded n (result (get_or nodes n no_node).op table)
  bounded_operator n less is table inputs fault =
      let node = get_or nodes n no_node in
      subst (λ columns. IsNodeTable (length columns) (bound n) (result node.op table)) (sym (columns_at-node nodes no_node n less))
      (subst (λ b. IsNodeTable (length node.columns) b (result node.op table)) (sym (bound_is plan no_node l n less))
      (node_table (columns_at nodes) node.columns bound table node.op is (l.nodes n less).columns (subst (λ b. b < 2 ^ 62) (bound_is plan no_node l n less) (bound_room plan no_node l n less))
      (every_weaker (λ i. i < n) (λ i. IsBound (bound i)) (inputs_of node.op) (λ i below. each_bound plan no_node l i (omega (arith, below, less))) (l.nodes n less).lesser) inputs fault))

  pub lesser_nodes : (n : ℕ) → n < length nodes → AllByRecursion (λ input. input < n) (inputs_of (get_or nodes n no_node).op)
  lesser_nodes n less = (l.nodes n less).lesser

  pub fitting_columns : (n : ℕ) → n < length nodes → columns_fit (get_or nodes n no_node).op (columns_at nodes) (columns_at nodes n) ≡ true
  fitting_columns n less = ap (columns_fit (get_or nodes n no_node).op (columns_at nodes)) (columns_at-node nodes no_node n less) ∙ (l.nodes n less).columns

pub plan_tables : (plan : Plan) (sources : List PlainTable) → is_lawful plan ≡ true → AreSourceTables (sources_of plan.nodes) sources → (node : ℕ) → node < length plan.nodes → has_table (outcome_at (eval plan sources) node) ≡ true
    → IsNodeTable (length (columns_at plan.nodes node)) (slice_index (key_bounds plan.nodes) node) (table_at (eval plan sources) node)
plan_tables plan sources lawful tables =
    each_node_has plan.nodes no_node sources (lesser_nodes plan lawful) (IsBounded plan lawful) (bounded_source plan lawful sources tables) (bounded_operator plan lawful)
