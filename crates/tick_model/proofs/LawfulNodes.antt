-- What the nodes of a lawful plan keep to.
use Rattle.std.proofs.Common.{◌≡◌, sym, subst, Bool, true, ◌&&◌, ℕ, zero, suc, ◌+◌, ◌^◌, ◌<◌, ◌≤◌, arith, List, [], ◌∷◌, length, map, get_or}
use Rattle.std.{specs.Prelude.{nat_lt, nat_le}, specs.List.{list_all, enumerate_from, AllByRecursion}, proofs.lemmas.Bool.{and_parts, leb-true, ltb-true}}
use Rattle.tick_model.{specs.declared.plan.ColumnSpec.ColumnSpec, specs.declared.plan.Node.Node, specs.declared.plan.Plan.Plan, specs.declared.plan.Published.Published, specs.Operators.{inputs_of, columns_fit}, specs.Names.{is_name, are_distinct}, specs.Plans.{is_lawful, node_lawful, key_bounds, columns_at, rises, number_distinct, publication_lawful, published_words}, proofs.KeyBounds.{key_bound, bound_below}}

-- lesser inputs, columns that fit, at most 32, and a bound below 2 ^ 62
pub record IsLawfulNode (nodes : List Node) (n : ℕ) (node : Node) : Type 0 where
  pub lesser : AllByRecursion (λ input. input < n) (inputs_of node.op)
  pub fits : columns_fit node.op (columns_at nodes) node.columns ≡ true
  pub narrow : length node.columns ≤ 32
  pub room : key_bound nodes n < 2 ^ 62

-- one of the numbered nodes
numbered_at : (p : (ℕ × Node) → Bool) (start : ℕ) (nodes : List Node) (n : ℕ) (node : Node) → list_all p (enumerate_from start nodes) ≡ true → n < length nodes → node ≡ get_or nodes n node → p (start + n, node) ≡ true
numbered_at p start [] n node h within here = absurd (omega arith)
numbered_at p start (first ∷ nodes) zero node h within here =
    let same : start ≡ start + 0 = omega arith in
    subst (λ (node : Node). p (start + 0, node) ≡ true) (sym here) (subst (λ k. p (k, first) ≡ true) same (and_parts (p (start, first)) (list_all p (enumerate_from (start + 1) nodes)) h).0)
numbered_at p start (first ∷ nodes) (suc n) node h within here =
    let same : start + 1 + n ≡ start + suc n = omega arith in
    subst (λ k. p (k, node) ≡ true) same (numbered_at p (start + 1) nodes n node (and_parts (p (start, first)) (list_all p (enumerate_from (start + 1) nodes)) h).1 (omega arith) here)

lesser_of : (n : ℕ) (inputs : List ℕ) → list_all (λ input. nat_lt input n) inputs ≡ true → AllByRecursion (λ input. input < n) inputs
lesser_of n [] h = tt
lesser_of n (input ∷ inputs) h =
    let parts = and_parts (nat_lt input n) (list_all (λ input. nat_lt input n) inputs) h in
    (ltb-true input n parts.0, lesser_of n inputs parts.1)

-- the third and the fourth of nine tests
nine_tests : (a b c d e f g h i : Bool) → (a && b && c && d && e && f && g && h && i) ≡ true → (c ≡ true) × (d ≡ true)
nine_tests a b c d e f g h i all =
    let first_eight = (and_parts (a && b && c && d && e && f && g && h) i all).0 in
    let first_seven = (and_parts (a && b && c && d && e && f && g) h first_eight).0 in
    let first_six = (and_parts (a && b && c && d && e && f) g first_seven).0 in
    let first_five = (and_parts (a && b && c && d && e) f first_six).0 in
    let first_four = (and_parts (a && b && c && d) e first_five).0 in
    let fourth = and_parts (a && b && c) d first_four in
    ((and_parts (a && b) c fourth.0).1, fourth.1)

-- the last two of seven tests, and the fifth
seven_tests : (a b c d e f g : Bool) → (a && b && c && d && e && f && g) ≡ true → (e ≡ true) × (f ≡ true) × (g ≡ true)
seven_tests a b c d e f g all =
    let last = and_parts (a && b && c && d && e && f) g all in
    let sixth = and_parts (a && b && c && d && e) f last.0 in
    ((and_parts (a && b && c && d) e sixth.0).1, sixth.1, last.1)

plan_tests : (plan : Plan) → is_lawful plan ≡ true
    → (list_all (node_lawful plan.nodes) (enumerate_from 0 plan.nodes) ≡ true) × (list_all (λ bound. nat_lt bound (2 ^ 62)) (key_bounds plan.nodes) ≡ true)
plan_tests plan h =
    nine_tests (nat_le (length plan.nodes) 256) (are_distinct (map (λ (node : Node). node.name) plan.nodes)) (list_all (node_lawful plan.nodes) (enumerate_from 0 plan.nodes)) (list_all (λ bound. nat_lt bound (2 ^ 62)) (key_bounds plan.nodes))
    (rises plan.printed) (list_all (λ node. nat_lt node (length plan.nodes)) plan.printed) (number_distinct (map (λ (published : Published). published.node) plan.published)) (list_all (publication_lawful plan.nodes) plan.published)
    (nat_le (published_words plan.published) 1048576) h

pub lawful_node : (plan : Plan) (n : ℕ) (node : Node) → is_lawful plan ≡ true → n < length plan.nodes → node ≡ get_or plan.nodes n node → IsLawfulNode plan.nodes n node
lawful_node plan n node h within here =
    let tests = plan_tests plan h in
    let start : 0 + n ≡ n = omega arith in
    let own : node_lawful plan.nodes (n, node) ≡ true = subst (λ k. node_lawful plan.nodes (k, node) ≡ true) start (numbered_at (node_lawful plan.nodes) 0 plan.nodes n node tests.0 within here) in
    let parts = seven_tests (is_name node.name) (list_all (λ (column : ColumnSpec). is_name column.name) node.columns) (are_distinct (map (λ (column : ColumnSpec). column.name) node.columns)) (nat_le 1 (length node.columns))
    (nat_le (length node.columns) 32) (list_all (λ input. nat_lt input n) (inputs_of node.op)) (columns_fit node.op (columns_at plan.nodes) node.columns) own in
    record {
      lesser = lesser_of n (inputs_of node.op) parts.1;
      fits = parts.2;
      narrow = leb-true (length node.columns) 32 parts.0;
      room = bound_below (2 ^ 62) plan.nodes n tests.1 within;
    }
