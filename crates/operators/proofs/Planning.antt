-- The operators of a lawful plan can be made, and before the first step no node has rows.
use Rattle.std.proofs.Common.{◌≡◌, refl, sym, ◌∙◌, subst, true, false, ℕ, ◌<◌, arith, List, [], ◌∷◌, length, map, get_or, zero, suc}
use Rattle.std.{specs.List.AllByRecursion, proofs.lemmas.List.get_or_default}
use Rattle.key_lists.proofs.Every.{every_weaker, map_map, map_same}
use Rattle.tick_model.{specs.declared.plan.Node.Node, specs.declared.plan.Plan.Plan, specs.Evaluation.is_source, specs.Plans.{columns_at, is_lawful}, proofs.LawfulNodes.{IsLawfulNode, lawful_node}, specs.States.empty_at}
use Rattle.operators.{specs.Planned.{input_widths, op_at}, proofs.Each.{IsPlanned, planned}}
use Rattle.tick_laws.proofs.LawfulPlans.{columns_at-node}
use Rattle.tick_table.specs.Ticking.{no_rows}

pub lawful_at : (plan : Plan) (n : ℕ) (d : Node) → is_lawful plan ≡ true → n < length plan.nodes → IsLawfulNode plan.nodes n (get_or plan.nodes n d)
lawful_at plan n d lawful less = lawful_node plan n (get_or plan.nodes n d) lawful less (get_or_default plan.nodes n d (get_or plan.nodes n d) less)

pub planned_node : (plan : Plan) (n : ℕ) (d : Node) → is_lawful plan ≡ true → n < length plan.nodes → is_source (get_or plan.nodes n d) ≡ false
    → IsPlanned (op_at plan n d) (input_widths plan (op_at plan n d)) (columns_at plan.nodes n)
planned_node plan n d lawful less is =
    let node = get_or plan.nodes n d in
    let own = lawful_at plan n d lawful less in
    subst (IsPlanned node.op (input_widths plan node.op)) (sym (columns_at-node plan.nodes d n less)) (planned (columns_at plan.nodes) node.columns own.narrow node.op is own.fits)

-- the empty table of a node
empty_of : (plan : Plan) (nodes : List Node) (n : ℕ) → n < length nodes → empty_at (record plan { nodes = nodes }) n ≡ no_rows (length (columns_at nodes n))
empty_of plan [] n h = absurd (omega (arith, h))
empty_of plan (node ∷ nodes) zero h = refl
empty_of plan (node ∷ nodes) (suc n) h = empty_of plan nodes n (omega (arith, h))

pub empty_node : (plan : Plan) (n : ℕ) → n < length plan.nodes → empty_at plan n ≡ no_rows (length (columns_at plan.nodes n))
empty_node plan n h = empty_of plan plan.nodes n h

pub empty_inputs : (plan : Plan) (n : ℕ) (inputs : List ℕ) → n < length plan.nodes → AllByRecursion (λ input. input < n) inputs → map (empty_at plan) inputs ≡ map no_rows (map (λ input. length (columns_at plan.nodes input)) inputs)
empty_inputs plan n inputs h lesser =
    map_same (empty_at plan) (λ input. no_rows (length (columns_at plan.nodes input))) inputs
    (every_weaker (λ input. input < n) (λ input. empty_at plan input ≡ no_rows (length (columns_at plan.nodes input))) inputs (λ input less. empty_node plan input (omega (arith, less, h))) lesser)
    ∙ sym (map_map no_rows (λ input. length (columns_at plan.nodes input)) inputs)
