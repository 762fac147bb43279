-- The edges of a lawful plan.
use Rattle.std.proofs.Common.{◌≡◌, ◌≢◌, refl, ap, ap₂, sym, ◌∙◌, subst, ℕ, zero, suc, ◌+◌, ◌*◌, ◌^◌, ◌<◌, ◌≤◌, ◌==◌, ◌&&◌, arith, Bool, true, false, true≢false, cond, List, [], ◌∷◌, ◌++◌, append-nil, append_assoc, length, length-append, take, get_or, eq-eqb, ne_eqb}
use Rattle.std.{specs.Prelude.nat_le, specs.List.{AllByRecursion, list_all}, proofs.lemmas.Bool.{and_parts, eqb-true, leb-true, not-true, not-false}, proofs.lemmas.List.{length-take-le, take_more}}
use mathlib.Core.Option.{some, some-injective, some-ne-none}
use lib.ListN.{get_elem?}
use Rattle.graph_words.{specs.declared.graph.Edge.Edge, specs.Marks.{inputs, when}, proofs.Marks.some_input}
use Rattle.key_lists.proofs.Every.{every_weaker, every-append}
use Rattle.tick_laws.proofs.LawfulPlans.{lawful_plan}
use Rattle.tick_model.{specs.declared.feed.Run.Run, specs.declared.plan.ColumnSpec.ColumnSpec, specs.declared.plan.Node.Node, specs.Operators.{inputs_of, is_source_op}, specs.LawfulRuns.IsLawfulRun, proofs.Results.{HasInputs, has_inputs, source_inputs as op_source_inputs}, specs.Plans.columns_at}
use Rattle.update_graph.{specs.Edges.{edges_from, edges_of, froms_to, input_edges}, specs.Tags.{is_operator, no_node, node_at, op_at}, proofs.PlanLimits.few_nodes}

-- a node with input edges has one
abbrev pub IsInto : ℕ → List Edge → Type 0
IsInto n edges = (e : ℕ) × (x : Edge) × (get_elem? edges e ≡ some x) × (x.to ≡ n)

into_first : (n : ℕ) (x : Edge) (xs : List Edge) (b : Bool) → (x.to == n) ≡ b → 0 < when b 1 + inputs n xs → (0 < inputs n xs → IsInto n xs) → IsInto n (x ∷ xs)
into_first n x xs true is some_in rest = (0, x, refl, eqb-true x.to n is)
into_first n x xs false is some_in rest = let next = rest (omega (arith, some_in)) in (suc next.0, next.1, next.2, next.3)

pub edge_into : (n : ℕ) (edges : List Edge) → 0 < inputs n edges → IsInto n edges
edge_into n [] some_in = absurd (omega (arith, some_in))
edge_into n (x ∷ xs) some_in = into_first n x xs (x.to == n) refl some_in (edge_into n xs)

pub every_at : {X : Type 0} (P : X → Type 0) (xs : List X) → AllByRecursion P xs → (k : ℕ) (x : X) → get_elem? xs k ≡ some x → P x
every_at P [] h k x at = absurd (some-ne-none x (sym at))
every_at P (y ∷ ys) h zero x at = subst P (some-injective y x at) h.0
every_at P (y ∷ ys) h (suc k) x at = every_at P ys h.1 k x at

-- what holds of each edge
into_each : (P : Edge → Type 0) (node port : ℕ) (from : List ℕ) → AllByRecursion (λ input. (port : ℕ) → P (record { from = input; to = node; port = port })) from → AllByRecursion P (input_edges node port from)
into_each P node port [] h = tt
into_each P node port (input ∷ from) h = (h.0 port, into_each P node (port + 1) from h.1)

from_each : (P : Edge → Type 0) (start : ℕ) (nodes : List Node)
    → ((k : ℕ) → k < length nodes → AllByRecursion (λ input. (port : ℕ) → P (record { from = input; to = start + k; port = port })) (inputs_of (get_or nodes k no_node).op))
    → AllByRecursion P (edges_from start nodes)
from_each P start [] h = tt
from_each P start (own ∷ others) h =
    let here : start + 0 ≡ start = omega arith in
    every-append P (input_edges start 0 (inputs_of own.op)) (edges_from (start + 1) others)
    (into_each P start 0 (inputs_of own.op) (subst (λ to. AllByRecursion (λ input. (port : ℕ) → P (record { from = input; to = to; port = port })) (inputs_of own.op)) here (h 0 (omega arith))))
    (from_each P (start + 1) others (λ k less.
    let next : start + suc k ≡ start + 1 + k = omega arith in
    subst (λ to. AllByRecursion (λ input. (port : ℕ) → P (record { from = input; to = to; port = port })) (inputs_of (get_or others k no_node).op)) next (h (suc k) (omega arith))))

-- how many there are
length-into : (node port : ℕ) (from : List ℕ) → length (input_edges node port from) ≡ length from
length-into node port [] = refl
length-into node port (input ∷ from) = ap suc (length-into node (port + 1) from)

few_from : (start : ℕ) (nodes : List Node) → ((k : ℕ) → k < length nodes → length (inputs_of (get_or nodes k no_node).op) ≤ 16) → length (edges_from start nodes) ≤ 16 * length nodes
few_from start [] h = omega arith
few_from start (own ∷ others) h =
    let a = length-append (input_edges start 0 (inputs_of own.op)) (edges_from (start + 1) others) in
    let b = length-into start 0 (inputs_of own.op) in
    let c = h 0 (omega arith) in
    let d = few_from (start + 1) others (λ k less. h (suc k) (omega arith)) in
    omega arith

-- one more input, and one more node
into-append : (node port : ℕ) (xs ys : List ℕ) → input_edges node port (xs ++ ys) ≡ input_edges node port xs ++ input_edges node (port + length xs) ys
into-append node port [] ys = let same : port ≡ port + 0 = omega arith in ap (λ p. input_edges node p ys) same
into-append node port (x ∷ xs) ys =
    let same : port + 1 + length xs ≡ port + suc (length xs) = omega arith in
    ap (λ l. record { from = x; to = node; port = port } ∷ l) (into-append node (port + 1) xs ys ∙ ap (λ p. input_edges node (port + 1) xs ++ input_edges node p ys) same)

pub more_into : (node k d : ℕ) (xs : List ℕ) → k < length xs → input_edges node 0 (take (k + 1) xs) ≡ input_edges node 0 (take k xs) ++ record { from = get_or xs k d; to = node; port = k } ∷ []
more_into node k d xs less =
    let long = length-take-le k xs (omega arith) in
    let same : 0 + length (take k xs) ≡ k = omega arith in
    ap (input_edges node 0) (take_more xs k d less)
    ∙ into-append node 0 (take k xs) (get_or xs k d ∷ [])
    ∙ ap (λ (p : ℕ). input_edges node 0 (take k xs) ++ record { from = get_or xs k d; to = node; port = p } ∷ []) same

from-append : (start : ℕ) (xs ys : List Node) → edges_from start (xs ++ ys) ≡ edges_from start xs ++ edges_from (start + length xs) ys
from-append start [] ys = let same : start ≡ start + 0 = omega arith in ap (λ p. edges_from p ys) same
from-append start (x ∷ xs) ys =
    let same : start + 1 + length xs ≡ start + suc (length xs) = omega arith in
    ap (λ l. input_edges start 0 (inputs_of x.op) ++ l) (from-append (start + 1) xs ys ∙ ap (λ p. edges_from (start + 1) xs ++ edges_from p ys) same)
    ∙ sym (append_assoc (input_edges start 0 (inputs_of x.op)) (edges_from (start + 1) xs) (edges_from (start + suc (length xs)) ys))

pub more_from : (k : ℕ) (d : Node) (nodes : List Node) → k < length nodes → edges_from 0 (take (k + 1) nodes) ≡ edges_from 0 (take k nodes) ++ input_edges k 0 (inputs_of (get_or nodes k d).op)
more_from k d nodes less =
    let long = length-take-le k nodes (omega arith) in
    let same : 0 + length (take k nodes) ≡ k = omega arith in
    ap (edges_from 0) (take_more nodes k d less)
    ∙ from-append 0 (take k nodes) (get_or nodes k d ∷ [])
    ∙ ap (λ p. edges_from 0 (take k nodes) ++ (input_edges p 0 (inputs_of (get_or nodes k d).op) ++ [])) same
    ∙ ap (λ l. edges_from 0 (take k nodes) ++ l) (append-nil (input_edges k 0 (inputs_of (get_or nodes k d).op)))

-- the nodes from which edges go to a node
pub froms-append : (n : ℕ) (xs ys : List Edge) → froms_to n (xs ++ ys) ≡ froms_to n xs ++ froms_to n ys
froms-append n [] ys = refl
froms-append n (x ∷ xs) ys = go (x.to == n) (froms-append n xs ys)
  where
    go : (b : Bool) → froms_to n (xs ++ ys) ≡ froms_to n xs ++ froms_to n ys → cond b (x.from ∷ froms_to n (xs ++ ys)) (froms_to n (xs ++ ys)) ≡ cond b (x.from ∷ froms_to n xs) (froms_to n xs) ++ froms_to n ys
    go true r = ap (λ l. x.from ∷ l) r
    go false r = r

froms_into : (n port : ℕ) (from : List ℕ) → froms_to n (input_edges n port from) ≡ from
froms_into n port [] = refl
froms_into n port (input ∷ from) =
    ap (λ b. cond b (input ∷ froms_to n (input_edges n (port + 1) from)) (froms_to n (input_edges n (port + 1) from))) (eq-eqb n n refl)
    ∙ ap (λ l. input ∷ l) (froms_into n (port + 1) from)

froms_other : (n m port : ℕ) (from : List ℕ) → m ≢ n → froms_to n (input_edges m port from) ≡ []
froms_other n m port [] ne = refl
froms_other n m port (input ∷ from) ne =
    ap (λ b. cond b (input ∷ froms_to n (input_edges m (port + 1) from)) (froms_to n (input_edges m (port + 1) from))) (ne_eqb m n ne)
    ∙ froms_other n m (port + 1) from ne

froms_before : (n start : ℕ) (nodes : List Node) → n < start → froms_to n (edges_from start nodes) ≡ []
froms_before n start [] less = refl
froms_before n start (own ∷ others) less =
    froms-append n (input_edges start 0 (inputs_of own.op)) (edges_from (start + 1) others)
    ∙ ap₂ (λ a b. a ++ b) (froms_other n start 0 (inputs_of own.op) (λ e. omega arith)) (froms_before n (start + 1) others (omega arith))

froms_at : (n start : ℕ) (nodes : List Node) (k : ℕ) → k < length nodes → n ≡ start + k → froms_to n (edges_from start nodes) ≡ inputs_of (get_or nodes k no_node).op
froms_at n start [] k less is = absurd (omega arith)
froms_at n start (own ∷ others) zero less is =
    let same : start ≡ n = omega arith in
    froms-append n (input_edges start 0 (inputs_of own.op)) (edges_from (start + 1) others)
    ∙ ap₂ (λ a b. a ++ b) (ap (λ m. froms_to n (input_edges m 0 (inputs_of own.op))) same ∙ froms_into n 0 (inputs_of own.op)) (froms_before n (start + 1) others (omega arith))
    ∙ append-nil (inputs_of own.op)
froms_at n start (own ∷ others) (suc k) less is =
    froms-append n (input_edges start 0 (inputs_of own.op)) (edges_from (start + 1) others)
    ∙ ap₂ (λ a b. a ++ b) (froms_other n start 0 (inputs_of own.op) (λ e. omega arith)) (froms_at n (start + 1) others k (omega arith) (omega arith))

pub item_there : {X : Type 0} (items : List X) (k : ℕ) (d : X) → k < length items → get_elem? items k ≡ some (get_or items k d)
item_there [] k d less = absurd (omega arith)
item_there (x ∷ xs) zero d less = refl
item_there (x ∷ xs) (suc k) d less = item_there xs k d (omega arith)

-- one more edge goes to the node, or does not
pub froms_more : (n k : ℕ) (edges : List Edge) (d : Edge) → k < length edges → (get_or edges k d).to ≡ n → froms_to n (take (k + 1) edges) ≡ froms_to n (take k edges) ++ (get_or edges k d).from ∷ []
froms_more n k edges d less is =
    ap (froms_to n) (take_more edges k d less) ∙ froms-append n (take k edges) (get_or edges k d ∷ [])
    ∙ ap (λ b. froms_to n (take k edges) ++ cond b ((get_or edges k d).from ∷ []) []) (eq-eqb (get_or edges k d).to n is)

pub froms_same : (n k : ℕ) (edges : List Edge) (d : Edge) → k < length edges → (get_or edges k d).to ≢ n → froms_to n (take (k + 1) edges) ≡ froms_to n (take k edges)
froms_same n k edges d less other =
    ap (froms_to n) (take_more edges k d less) ∙ froms-append n (take k edges) (get_or edges k d ∷ [])
    ∙ ap (λ b. froms_to n (take k edges) ++ cond b ((get_or edges k d).from ∷ []) []) (ne_eqb (get_or edges k d).to n other)
    ∙ append-nil (froms_to n (take k edges))

-- as many as the claims count
inputs_are : (n : ℕ) (edges : List Edge) → inputs n edges ≡ length (froms_to n edges)
inputs_are n [] = refl
inputs_are n (x ∷ xs) = go (x.to == n) (inputs_are n xs)
  where
    go : (b : Bool) → inputs n xs ≡ length (froms_to n xs) → when b 1 + inputs n xs ≡ length (cond b (x.from ∷ froms_to n xs) (froms_to n xs))
    go true r = omega arith
    go false r = omega arith

module _ (run : Run) (h : IsLawfulRun run) where
  pub operator_inputs : (n : ℕ) → n < length run.plan.nodes → is_operator run n ≡ true → HasInputs (op_at run n)
  operator_inputs n within is = has_inputs (op_at run n) (columns_at run.plan.nodes) (node_at run n).columns ((lawful_plan run.plan no_node h.plan).nodes n within).columns (not-true (is_source_op (op_at run n)) is)

  pub node_few : (n : ℕ) → n < length run.plan.nodes → length (inputs_of (op_at run n)) ≤ 16
  node_few n within = go (is_operator run n) refl
    where
      go : (b : Bool) → is_operator run n ≡ b → length (inputs_of (op_at run n)) ≤ 16
      go true is = (operator_inputs n within is).few
      go false is = let none = ap length (op_source_inputs (op_at run n) (not-false (is_source_op (op_at run n)) is)) in omega arith

  pub few_edges : length (edges_of run.plan) < 2 ^ 32
  few_edges = let a = few_from 0 run.plan.nodes node_few in let b = few_nodes run h in omega arith

  pub edge_ends : (e : ℕ) (x : Edge) → get_elem? (edges_of run.plan) e ≡ some x → (x.from < x.to) × (x.to < length run.plan.nodes)
  edge_ends e x there =
      every_at (λ (x : Edge). (x.from < x.to) × (x.to < length run.plan.nodes)) (edges_of run.plan)
      (from_each (λ (x : Edge). (x.from < x.to) × (x.to < length run.plan.nodes)) 0 run.plan.nodes (λ k less.
      every_weaker (λ input. input < k) (λ input. (port : ℕ) → (input < 0 + k) × (0 + k < length run.plan.nodes)) (inputs_of (op_at run k)) (λ input below port. (omega arith, omega arith))
      ((lawful_plan run.plan no_node h.plan).nodes k less).lesser))
      e x there

  pub input_froms : (n : ℕ) → n < length run.plan.nodes → froms_to n (edges_of run.plan) ≡ inputs_of (op_at run n)
  input_froms n within = froms_at n 0 run.plan.nodes n within (omega arith)

  inputs_count : (n : ℕ) → n < length run.plan.nodes → inputs n (edges_of run.plan) ≡ length (inputs_of (op_at run n))
  inputs_count n within = inputs_are n (edges_of run.plan) ∙ ap length (input_froms n within)

  -- an edge goes to an operator
  pub goes_to_operator : (e : ℕ) (x : Edge) → get_elem? (edges_of run.plan) e ≡ some x → is_operator run x.to ≡ true
  goes_to_operator e x there = go (is_operator run x.to) refl
    where
      go : (b : Bool) → is_operator run x.to ≡ b → is_operator run x.to ≡ true
      go true is = is
      go false is =
          let count = inputs_count x.to (edge_ends e x there).1 in
          let none = ap length (op_source_inputs (op_at run x.to) (not-false (is_source_op (op_at run x.to)) is)) in
          let some_one = some_input x.to e (edges_of run.plan) x there refl in
          absurd (omega arith)

  pub source_inputs : (n : ℕ) → n < length run.plan.nodes → is_operator run n ≡ false → inputs n (edges_of run.plan) ≡ 0
  source_inputs n within is = inputs_count n within ∙ ap length (op_source_inputs (op_at run n) (not-false (is_source_op (op_at run n)) is))

  pub no_inputs : (n : ℕ) → n < length run.plan.nodes → inputs n (edges_of run.plan) ≡ 0 → is_operator run n ≡ false
  no_inputs n within none = go (is_operator run n) refl
    where
      go : (b : Bool) → is_operator run n ≡ b → is_operator run n ≡ false
      go false is = is
      go true is =
          let count = inputs_count n within in
          let many = (operator_inputs n within is).many in
          absurd (omega arith)
