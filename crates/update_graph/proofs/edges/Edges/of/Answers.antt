use Rattle.std.proofs.Common.{◌<◌, ◌∙◌, ap, sym, subst, arith, length, get_or}
use Rattle.std.proofs.lemmas.List.{take_all}
use lib.ListN.{get_elem?}
use Rattle.graph_words.specs.declared.graph.Edge.{Edge}
use Rattle.update_graph.{specs.Edges.{comes_from, goes_to, numbers_of}, proofs.Numbered.more_numbers, proofs.PlanEdges.{edge_ends, item_there, few_edges}, proofs.Walking.no_edge}
use Rattle.update_graph.proofs.edges.Edges.of.Goals as goal

pub overflow_cast-number : goal.overflow_cast-number
overflow_cast-number c =
    let few = subst (λ l. length l < 4294967296) (sym (c.as_slice-edges.ensures.value ∙ c.in_ok-all.ensures)) (few_edges c.args.run.now c.requires) in
    let less = c.loop-number-test.true in
    omega arith

pub overflow_cast-number-in-loop-number : goal.overflow_cast-number-in-loop-number
overflow_cast-number-in-loop-number c =
    let few = subst (λ l. length l < 4294967296) (sym (c.as_slice-edges.ensures.value ∙ c.in_ok-all.ensures)) (few_edges c.args.run.now c.requires) in
    let less = c.loop-number-test.true in
    omega arith

pub add_number-requires : goal.add_number-requires
add_number-requires c =
    let k = c.loop-number.number in
    let edges = c.as_slice-edges.result.now in
    let same = c.as_slice-edges.ensures.value ∙ c.in_ok-all.ensures in
    let ends = edge_ends c.args.run.now c.requires k (get_or edges k no_edge) (ap (λ l. get_elem? l k) (sym same) ∙ item_there edges k no_edge c.loop-number-test.true) in
    let below = ends.1 in
    let many = c.loop-number.invariant.inputs_length in
    omega arith

pub add_number-requires-in-loop-number : goal.add_number-requires-in-loop-number
add_number-requires-in-loop-number c =
    let k = c.loop-number.number in
    let edges = c.as_slice-edges.result.now in
    let same = c.as_slice-edges.ensures.value ∙ c.in_ok-all.ensures in
    let ends = edge_ends c.args.run.now c.requires k (get_or edges k no_edge) (ap (λ l. get_elem? l k) (sym same) ∙ item_there edges k no_edge c.loop-number-test.true) in
    let upward = ends.0 in
    let below = ends.1 in
    let many = c.loop-number.invariant.outputs_length in
    omega arith

pub loop-number-init : goal.loop-number-init
loop-number-init c = record {
  inputs_length = c.in_ok-inputs.ensures.length;
  outputs_length = c.in_ok-outputs.ensures.length;
  inputs = λ n. c.in_ok-inputs.ensures.empty n;
  outputs = λ n. c.in_ok-outputs.ensures.empty n;
}

pub loop-number-preserved : goal.loop-number-preserved
loop-number-preserved c =
    let k = c.loop-number.number in
    let edges = c.as_slice-edges.result.now in
    let known = c.loop-number.invariant in
    record {
      inputs_length = c.in_ok-add_number.ensures.length ∙ known.inputs_length;
      outputs_length = c.in_ok-add_number-2.ensures.length ∙ known.outputs_length;
      inputs = more_numbers (λ (x : Edge). x.to) edges k c.loop-number.inputs.items c.add_number.new.lists.items c.loop-number-test.true known.inputs c.in_ok-add_number.ensures.added c.in_ok-add_number.ensures.others;
      outputs = more_numbers (λ (x : Edge). x.from) edges k c.loop-number.outputs.items c.add_number-in-loop-number.new.lists.items c.loop-number-test.true known.outputs c.in_ok-add_number-2.ensures.added c.in_ok-add_number-2.ensures.others;
    }

pub invariant_of-result : goal.invariant_of-result
invariant_of-result c =
    let all = take_all c.loop-number.number c.as_slice-edges.result.now c.loop-number-test.false ∙ c.as_slice-edges.ensures.value in (
      λ n. c.loop-number.invariant.inputs n ∙ ap (numbers_of (goes_to n) 0) all,
      λ n. c.loop-number.invariant.outputs n ∙ ap (numbers_of (comes_from n) 0) all,
    )
