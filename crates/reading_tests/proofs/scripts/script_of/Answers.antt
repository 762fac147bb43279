use Rattle.std.proofs.Common.{◌≡◌, ◌<◌, ◌≤◌, ◌^◌, [], ◌∷◌, length, List, map, arith}
use Rattle.std.{proofs.lemmas.List.length-map, specs.List.AllByRecursion}
use Rattle.key_lists.proofs.Every.{all_from}
use Rattle.tick_model.specs.declared.plan.Node.{Node}
use Rattle.script_laws.proofs.Lawful.{script_lawful, script_written}
use Rattle.script_reader.specs.Plain.{plain_node, plain_script}
use Rattle.reading_tests.proofs.scripts.script_of.Goals as goal

few_columns : (nodes : List Node) → AllByRecursion (λ node. length node.columns ≤ 32) (map plain_node nodes) → AllByRecursion (λ node. length node.columns < 2 ^ 32) nodes
few_columns [] are = tt
few_columns (node ∷ nodes) are = (omega (arith, are.0), few_columns nodes are.1)

pub returns-in-Ok-clause-nodes : goal.returns-in-Ok-clause-nodes
returns-in-Ok-clause-nodes c =
    let few : length (map plain_node c.in-Ok.script.plan.nodes) ≤ 256 = (script_lawful [] _ (plain_script c.in-Ok.script) c.in-Ok.ensures.script).few in
    let same = length-map c.in-Ok.script.plan.nodes plain_node in
    omega (arith, few, same)

pub returns-in-Ok-clause-columns : goal.returns-in-Ok-clause-columns
returns-in-Ok-clause-columns c =
    let nodes : List Node = c.in-Ok.script.plan.nodes in
    all_from (λ (node : Node). length node.columns < 2 ^ 32) nodes (few_columns nodes (script_written _ (plain_script c.in-Ok.script) c.in-Ok.ensures.script).columns)
