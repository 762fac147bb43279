-- The entries of a lawful run can be told.
use Rattle.std.proofs.Common.{◌≡◌, ap, ◌∙◌, true, ℕ, ◌+◌, ◌<◌, List, [], ◌∷◌, map, length}
use Rattle.std.{specs.Prelude.{nat_le, nat_lt}, specs.List.{AllByRecursion, enumerate_from, list_all}, proofs.lemmas.Bool.{and_parts, leb-true, ltb-true}}
use Rattle.key_lists.{specs.Keys.is_among, proofs.Among.of_among, proofs.Every.{every_weaker, map_map}}
use Rattle.tick_model.{specs.declared.feed.Run.Run, specs.declared.plan.ColumnSpec.ColumnSpec, specs.declared.plan.Node.Node, specs.declared.plan.Plan.Plan, specs.Operators.{inputs_of, columns_fit}, specs.LawfulRuns.IsLawfulRun, specs.Names.are_distinct, specs.Plans.{is_lawful, node_lawful, publication_lawful, rises}}
use Rattle.tick_laws.proofs.EvalNodes.{all_pass}
use Rattle.update_text.specs.declared.shown.Shown.{Shown}
use Rattle.run_output.{specs.Entries.{AreShown, IsShown}, specs.Runs.{shown_node, tables_of}}

-- what the test of a plan says of its names, its nodes, and those that are printed and published
pub record HasPassed (plan : Plan) : Type 0 where
  pub names : are_distinct (map (λ (node : Node). node.name) plan.nodes) ≡ true
  pub nodes : list_all (node_lawful plan.nodes) (enumerate_from 0 plan.nodes) ≡ true
  pub rising : rises plan.printed ≡ true
  pub printed : list_all (λ node. nat_lt node (length plan.nodes)) plan.printed ≡ true
  pub published : list_all (publication_lawful plan.nodes) plan.published ≡ true

pub has_passed : (plan : Plan) → is_lawful plan ≡ true → HasPassed plan
has_passed plan h =
    let p8 = and_parts _ _ h in
    let p7 = and_parts _ (list_all (publication_lawful plan.nodes) plan.published) p8.0 in
    let p6 = and_parts _ _ p7.0 in
    let p5 = and_parts _ (list_all (λ node. nat_lt node (length plan.nodes)) plan.printed) p6.0 in
    let p4 = and_parts _ (rises plan.printed) p5.0 in
    let p3 = and_parts _ _ p4.0 in
    let p2 = and_parts _ (list_all (node_lawful plan.nodes) (enumerate_from 0 plan.nodes)) p3.0 in
    let p1 = and_parts _ (are_distinct (map (λ (node : Node). node.name) plan.nodes)) p2.0 in
    record { names = p1.1; nodes = p2.1; rising = p4.1; printed = p5.1; published = p7.1 }

pub printed_rise : (plan : Plan) → is_lawful plan ≡ true → rises plan.printed ≡ true
printed_rise plan h = (has_passed plan h).rising

pub printed_are : (plan : Plan) → is_lawful plan ≡ true → AllByRecursion (λ node. node < length plan.nodes) plan.printed
printed_are plan h =
    every_weaker (λ node. nat_lt node (length plan.nodes) ≡ true) (λ node. node < length plan.nodes) plan.printed (λ node less. ltb-true node (length plan.nodes) less)
    (all_pass (λ node. nat_lt node (length plan.nodes)) plan.printed (has_passed plan h).printed)

pub printed_there : (plan : Plan) → is_lawful plan ≡ true → (node : ℕ) → is_among node plan.printed ≡ true → node < length plan.nodes
printed_there plan h node there = of_among (λ n. n < length plan.nodes) node plan.printed (printed_are plan h) there

-- the nodes as they are shown
shown_passed : (all : List Node) (number : ℕ) (node : Node) → node_lawful all (number, node) ≡ true → IsShown (shown_node node)
shown_passed all number node h =
    let last = and_parts _ (columns_fit node.op _ node.columns) h in
    let inputs = and_parts _ (list_all (λ input. nat_lt input number) (inputs_of node.op)) last.0 in
    let few = and_parts _ (nat_le (length node.columns) 32) inputs.0 in
    let some = and_parts _ (nat_le 1 (length node.columns)) few.0 in
    let distinct = and_parts _ (are_distinct (map (λ (column : ColumnSpec). column.name) node.columns)) some.0 in
    record { some = leb-true 1 (length node.columns) some.1; few = leb-true (length node.columns) 32 few.1; distinct = distinct.1 }

each_shown : (all : List Node) (start : ℕ) (nodes : List Node) → list_all (node_lawful all) (enumerate_from start nodes) ≡ true → AllByRecursion IsShown (map shown_node nodes)
each_shown all start [] h = tt
each_shown all start (node ∷ nodes) h =
    let parts = and_parts (node_lawful all (start, node)) (list_all (node_lawful all) (enumerate_from (start + 1) nodes)) h in
    (shown_passed all start node parts.0, each_shown all (start + 1) nodes parts.1)

pub nodes_shown : (run : Run) → IsLawfulRun run → AreShown (tables_of run) run.texts
nodes_shown run h =
    let passed = has_passed run.plan h.plan in
    record {
      names = ap are_distinct (map_map (λ (shown : Shown). shown.name) shown_node run.plan.nodes) ∙ passed.names;
      each = each_shown run.plan.nodes 0 run.plan.nodes passed.nodes;
      rising = h.texts;
    }
