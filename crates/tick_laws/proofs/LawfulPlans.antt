-- What the test of a lawful plan says of its nodes.
use Rattle.std.proofs.Common.{◌≡◌, refl, sym, ◌∙◌, subst, ℕ, ◌+◌, ◌*◌, ◌<◌, ◌^◌, ◌&&◌, arith, true, true≢false, List, [], ◌∷◌, length, get_or}
use Rattle.std.{specs.Prelude.{sum_by, slice_index, nat_le}, specs.List.AllByRecursion, proofs.lemmas.Bool.and_parts, proofs.lemmas.List.{get_or-map, get_or_default}, proofs.lemmas.List.Sums.{sum-map, sum_by-cons}}
use Rattle.tick_model.{specs.declared.plan.ColumnSpec.ColumnSpec, specs.declared.plan.Node.Node, specs.declared.plan.Op.Op, specs.declared.plan.Op.TheVariants.{Source, Merge, Sort}, specs.declared.plan.Plan.Plan, specs.Operators.{inputs_of, columns_fit, bound_of}, specs.Plans.{is_lawful, columns_at, key_bounds}, proofs.KeyBounds.{bound_here, length-key_bounds}, proofs.LawfulNodes.{IsLawfulNode as IsNode, lawful_node}}
use Rattle.key_lists.{proofs.Every.every_weaker, proofs.Parts.every_from}
use Rattle.tick_laws.proofs.Grown.{by_lesser}

-- a bound of keys: so many regions of 65536 keys, and one at least
pub record IsBound (bound : ℕ) : Type 0 where
  pub regions : ℕ
  pub are : bound ≡ 65536 * (regions + 1)

sum_bound : (bound : ℕ → ℕ) (input : ℕ) (inputs : List ℕ) → AllByRecursion (λ i. IsBound (bound i)) (input ∷ inputs) → IsBound (sum_by bound (input ∷ inputs))
sum_bound bound input [] h = record { regions = h.0.regions; are = sum_by-cons bound input [] ∙ let e = h.0.are in omega (arith, e) }
sum_bound bound input (next ∷ inputs) h =
    let rest = sum_bound bound next inputs h.1 in
    record { regions = h.0.regions + rest.regions + 1; are = sum_by-cons bound input (next ∷ inputs) ∙ let e = h.0.are in let f = rest.are in omega (arith, e, f) }

-- the bound of an operator that fits its columns
op_bound : (op : Op) (input : ℕ → List ColumnSpec) (columns : List ColumnSpec) (bound : ℕ → ℕ) → columns_fit op input columns ≡ true → AllByRecursion (λ i. IsBound (bound i)) (inputs_of op) → IsBound (bound_of op bound)
op_bound Source input columns bound f h = record { regions = 16777215; are = refl }
op_bound (Merge []) input columns bound f h = absurd (true≢false (sym (and_parts (nat_le 2 0 && nat_le 0 16) true f).0))
op_bound (Merge (from ∷ inputs)) input columns bound f h = subst IsBound (sym (sum-map bound (from ∷ inputs))) (sum_bound bound from inputs h)
op_bound (Sort from by) input columns bound f h = record { regions = 63; are = refl }
op_bound op input columns bound f h = h.0

-- the inputs of a node are lesser, and its columns are those of its operator
pub record IsLawfulNode (nodes : List Node) (n : ℕ) (node : Node) : Type 0 where
  pub lesser : AllByRecursion (λ input. input < n) (inputs_of node.op)
  pub columns : columns_fit node.op (columns_at nodes) node.columns ≡ true

pub record IsLawfulPlan (plan : Plan) (d : Node) : Type 0 where
  pub nodes : (n : ℕ) → n < length plan.nodes → IsLawfulNode plan.nodes n (get_or plan.nodes n d)
  pub below : (n : ℕ) → n < length plan.nodes → get_or (key_bounds plan.nodes) n 0 < 2 ^ 62

pub lawful_plan : (plan : Plan) (d : Node) → is_lawful plan ≡ true → IsLawfulPlan plan d
lawful_plan plan d h = record { nodes = λ n less. let node = at n less in record { lesser = node.lesser; columns = node.fits }; below = λ n less. (at n less).room }
  where
    at : (n : ℕ) → n < length plan.nodes → IsNode plan.nodes n (get_or plan.nodes n d)
    at n less = lawful_node plan n (get_or plan.nodes n d) h less (get_or_default plan.nodes n d (get_or plan.nodes n d) less)

-- the columns of a node
pub columns_at-node : (nodes : List Node) (d : Node) (n : ℕ) → n < length nodes → columns_at nodes n ≡ (get_or nodes n d).columns
columns_at-node nodes d n h = get_or-map (λ (node : Node). node.columns) nodes n d [] h

module _ (plan : Plan) (d : Node) (l : IsLawfulPlan plan d) where
  abbrev B : List ℕ
  B = key_bounds plan.nodes

  -- the bound of a node is that of its operator over all bounds
  pub bound_is : (n : ℕ) → n < length plan.nodes → get_or B n 0 ≡ bound_of (get_or plan.nodes n d).op (slice_index B)
  bound_is n h = bound_here plan.nodes n (get_or plan.nodes n d) h (get_or_default plan.nodes n d (get_or plan.nodes n d) h) (l.nodes n h).lesser

  pub each_bound : (n : ℕ) → n < length plan.nodes → IsBound (get_or B n 0)
  each_bound = by_lesser (λ n. n < length plan.nodes → IsBound (get_or B n 0)) (λ n before h.
      subst IsBound (sym (bound_is n h))
      (op_bound (get_or plan.nodes n d).op (columns_at plan.nodes) (get_or plan.nodes n d).columns (slice_index B) (l.nodes n h).columns
      (every_weaker (λ i. i < n) (λ i. IsBound (slice_index B i)) (inputs_of (get_or plan.nodes n d).op) (λ i below. before i below (omega (arith, below, h))) (l.nodes n h).lesser)))

  -- no bound is past the keys
  pub bound_room : (n : ℕ) → n < length plan.nodes → get_or B n 0 < 2 ^ 62
  bound_room = l.below

  pub bounds_room : AllByRecursion (λ bound. bound < 2 ^ 62) B
  bounds_room =
      every_from (λ bound. bound < 2 ^ 62) B 0
      (λ k e _ less. let within : k < length plan.nodes = omega (arith, less, length-key_bounds plan.nodes) in subst (λ bound. bound < 2 ^ 62) (get_or_default B k 0 e less) (l.below k within))
