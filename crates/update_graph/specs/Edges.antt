-- The edges of a plan.
--     input_edges node port inputs      those that go to a node from these inputs, the first of which has this place
--     edges_from node nodes      those that go to these nodes, the first of which has this number
--     edges_of plan      all, in order of the nodes that they go to, and of the places among their inputs
--     froms_to node edges      the nodes from which edges go to a node
--     goes_to node edge, comes_from node edge      whether the edge goes to the node, or from it
--     numbers_of test number edges      the numbers of the edges that pass a test, the first of which has this number
--     AreNumbers test edges lists      the list of each node has the numbers of the edges that pass its test
use Rattle.std.{specs.Prelude.{◌≡◌, ℕ, ◌+◌, ◌==◌, Bool, List, [], ◌∷◌, ◌++◌, if◌then◌else◌, map, slice_index_or}, specs.Global.Vec}
use Rattle.graph_words.specs.declared.graph.Edge.{Edge}
use Rattle.tick_model.{specs.declared.plan.Node.Node, specs.declared.plan.Plan.Plan, specs.Operators.inputs_of}

abbrev pub input_edges : ℕ → ℕ → List ℕ → List Edge
input_edges node port [] = []
input_edges node port (input ∷ inputs) = record { from = input; to = node; port = port } ∷ input_edges node (port + 1) inputs

abbrev pub edges_from : ℕ → List Node → List Edge
edges_from node [] = []
edges_from node (own ∷ others) = input_edges node 0 (inputs_of own.op) ++ edges_from (node + 1) others

abbrev pub edges_of : Plan → List Edge
edges_of plan = edges_from 0 plan.nodes

abbrev pub froms_to : ℕ → List Edge → List ℕ
froms_to node [] = []
froms_to node (edge ∷ edges) = if edge.to == node then edge.from ∷ froms_to node edges else froms_to node edges

abbrev pub goes_to : ℕ → Edge → Bool
goes_to node edge = edge.to == node

abbrev pub comes_from : ℕ → Edge → Bool
comes_from node edge = edge.from == node

abbrev pub numbers_of : (Edge → Bool) → ℕ → List Edge → List ℕ
numbers_of test number [] = []
numbers_of test number (edge ∷ edges) = if test edge then number ∷ numbers_of test (number + 1) edges else numbers_of test (number + 1) edges

abbrev pub numbers_at : List (Vec ℕ) → ℕ → List ℕ
numbers_at lists node = slice_index_or (map (λ list. list.items) lists) node []

abbrev pub AreNumbers : (ℕ → Edge → Bool) → List Edge → List (Vec ℕ) → Type 0
AreNumbers test edges lists = (node : ℕ) → numbers_at lists node ≡ numbers_of (test node) 0 edges
