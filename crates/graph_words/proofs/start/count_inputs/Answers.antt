use Rattle.std.proofs.Common.{◌≡◌, ◌+◌, ◌<◌, ℕ, List, arith, length, length-set, take, get_or, eqb}
use mathlib.Core.Option.{some}
use lib.ListN.{get_elem?}
use Rattle.std.{proofs.lemmas.List.{get_or_default, get_or_read, length-take-le}, proofs.lemmas.List.Sums.count_by-le-length}
use Rattle.atomic_table.proofs.Lists.{at_index}
use Rattle.graph_words.{specs.declared.graph.Edge.Edge, proofs.Opens.counted_more}
use Rattle.graph_words.proofs.start.count_inputs.Goals as goal

abbrev no_edge : Edge
no_edge = record { from = 0; to = 0; port = 0 }

below : (edges : List Edge) (nodes i : ℕ) → ((e : ℕ) (x : Edge) → get_elem? edges e ≡ some x → x.to < nodes) → i < length edges → (get_or edges i no_edge).to < nodes
below edges nodes i ends less = ends i (get_or edges i no_edge) (at_index edges i (get_or edges i no_edge) less (get_or_default edges i no_edge (get_or edges i no_edge) less))

pub index_mut-requires : goal.index_mut-requires
index_mut-requires c =
    let k = c.loop-edge.edge-index in
    let ends = below c.args.edges.now c.args.nodes k c.requires.ends c.loop-edge-test.true in
    let len = c.loop-edge.invariant.len in
    omega arith

pub overflow_add-index_mut : goal.overflow_add-index_mut
overflow_add-index_mut c =
    let k = c.loop-edge.edge-index in
    let edges = c.args.edges.now in
    let counts = c.loop-edge.counts.items in
    let to = (get_or edges k no_edge).to in
    let ends = below edges c.args.nodes k c.requires.ends c.loop-edge-test.true in
    let len = c.loop-edge.invariant.len in
    let within : to < length counts = omega arith in
    let read = get_or_read counts to c.index_mut.result.now within c.index_mut.ensures.value 0 in
    let count = c.loop-edge.invariant.each to within in
    let few = count_by-le-length (λ (x : Edge). eqb x.to to) (take k edges) in
    let taken = length-take-le k edges (omega arith) in
    let most = c.requires.few in
    omega arith

pub loop-edge-preserved : goal.loop-edge-preserved
loop-edge-preserved c =
    let k = c.loop-edge.edge-index in
    let edges = c.args.edges.now in
    let counts = c.loop-edge.counts.items in
    let to = (get_or edges k no_edge).to in
    let ends = below edges c.args.nodes k c.requires.ends c.loop-edge-test.true in
    let len = c.loop-edge.invariant.len in
    let within : to < length counts = omega arith in
    let long = length-set counts to (c.index_mut.result.now + 1) in
    record {
      len = len;
      each = λ n less. counted_more edges k no_edge counts c.index_mut.result.now n c.loop-edge-test.true within c.index_mut.ensures.value c.loop-edge.invariant.each (omega arith);
    }
