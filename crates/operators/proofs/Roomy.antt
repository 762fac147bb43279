-- In a lawful plan a merge has keys enough.
use Rattle.std.proofs.Common.{◌≡◌, subst, ℕ, ◌+◌, ◌^◌, ◌<◌, ◌≤◌, arith, true, List, [], ◌∷◌, length, map, sum}
use Rattle.std.{specs.Prelude.slice_index, specs.List.AllByRecursion, proofs.lemmas.List.Elements.recursion_from_All}
use Rattle.key_lists.proofs.Every.{every_both, every_weaker, every-append, every-map}
use Rattle.tick_model.{specs.declared.plan.Node.Node, specs.declared.plan.Op.Op, specs.declared.plan.Op.TheVariants.Merge, specs.declared.plan.Plan.Plan, specs.declared.table.PlainRow.PlainRow, specs.declared.table.PlainTable.PlainTable, specs.Operators.{inputs_of, bound_of}, specs.Merge.{merged_rows, region, row_from}, specs.Plans.{columns_at, is_lawful, key_bounds}, specs.Ready.HaveRoom, specs.Tables.keys, proofs.Results.{AreResults, IsResult, merged_room}}
use Rattle.tick_laws.{specs.Bounded.IsNodeTable, specs.Operated.EachInput, proofs.LawfulPlans.{IsLawfulPlan, bound_is, bound_room, each_bound, lawful_plan}, proofs.NodeTables.node_result}
use Rattle.table_operator.specs.Made.{HasKeys}
use Rattle.operators.specs.Planned.{op_at}

roomy_rows : (offset : ℕ) (tables : List PlainTable) → HaveRoom offset tables → AllByRecursion (λ (row : PlainRow). row.key < 2 ^ 62) (merged_rows offset tables)
roomy_rows offset [] h = tt
roomy_rows offset (table ∷ tables) h =
    every-append (λ (row : PlainRow). row.key < 2 ^ 62) (map (row_from offset) table.rows) (merged_rows (offset + region table) tables)
    (every-map (λ (row : PlainRow). row.key < 2 ^ 62) (row_from offset) table.rows (recursion_from_All (λ (row : PlainRow). row.key + offset < 2 ^ 62) table.rows h.0.keys))
    (roomy_rows (offset + region table) tables h.1)

roomy_keys : (tables : List PlainTable) → HaveRoom 0 tables → AllByRecursion (λ key. key < 2 ^ 62) (keys (merged_rows 0 tables))
roomy_keys tables h = every-map (λ key. key < 2 ^ 62) (λ (row : PlainRow). row.key) (merged_rows 0 tables) (roomy_rows 0 tables h)

pub roomy_node : (plan : Plan) (n : ℕ) (d : Node) → is_lawful plan ≡ true → n < length plan.nodes → (table : ℕ → PlainTable)
    → EachInput (op_at plan n d) (λ input. IsNodeTable (length (columns_at plan.nodes input)) (slice_index (key_bounds plan.nodes) input) (table input))
    → HasKeys (op_at plan n d) (map table (inputs_of (op_at plan n d)))
roomy_node plan n d lawful less table h = go (op_at plan n d) (subst (λ b. b < 2 ^ 62) (bound_is plan d l n less) (bound_room plan d l n less)) (every_weaker (λ i. i < n) (λ i. i < length plan.nodes) (inputs_of (op_at plan n d)) (λ i below. omega (arith, below, less)) (l.nodes n less).lesser) h
  where
    l : IsLawfulPlan plan d
    l = lawful_plan plan d lawful

    width : ℕ → ℕ
    width input = length (columns_at plan.nodes input)

    bound : ℕ → ℕ
    bound = slice_index (key_bounds plan.nodes)

    go : (op : Op) → bound_of op bound < 2 ^ 62 → AllByRecursion (λ i. i < length plan.nodes) (inputs_of op) → EachInput op (λ i. IsNodeTable (width i) (bound i) (table i)) → HasKeys op (map table (inputs_of op))
    go (Merge inputs) room known t =
        let small : sum (map bound inputs) ≤ 2 ^ 62 = omega (arith, room) in
        let results : AreResults width bound table inputs = every_both (λ i. i < length plan.nodes) (λ i. IsNodeTable (width i) (bound i) (table i)) (λ i. IsResult (width i) (bound i) (table i)) inputs (λ i less. node_result (width i) (bound i) (table i) (each_bound plan d l i less)) known t in
        roomy_keys (map table inputs) (merged_room (sum (map bound inputs)) width bound table inputs 0 small results (omega arith))
    go op room known t = tt
