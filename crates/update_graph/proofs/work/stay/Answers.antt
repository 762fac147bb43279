use Rattle.std.proofs.Common.{ap, sym, ◌∙◌, subst, ◌+◌, arith, map}
use Rattle.operators.specs.Operating.{Operating, StandsFor}
use Rattle.std.{specs.Arc.arc_value, proofs.lemmas.Bool.not-true}
use Rattle.tick_model.{specs.Evaluation.{is_source, table_at}, specs.Operators.inputs_of, specs.States.state}
use Rattle.tick_table.specs.Ticking.{Ticking}
use Rattle.update_graph.{specs.Stands.HasStepped, specs.Tags.{node_at, op_at}, proofs.Counting.stepped_once, proofs.Staying.{has_table, own_after, rested_is, same_inputs}}
use Rattle.update_graph.proofs.work.stay.Goals as goal

pub holding-requires-clause-defined : goal.holding-requires-clause-defined
holding-requires-clause-defined c =
    let run = c.args.context.now.run.now in
    let n = c.args.node in
    has_table run c.args.context.now.step c.requires.entered n c.requires.node (not-true (is_source (node_at run n)) c.requires.operator) c.requires.inputs c.requires.clear

pub holding-requires-clause-ready : goal.holding-requires-clause-ready
holding-requires-clause-ready c =
    let run = c.args.context.now.run.now in
    let n = c.args.node in
    let same = c.in_ok-ready.ensures.operator in
    let is = not-true (is_source (node_at run n)) c.requires.operator in
    record {
      op = ap (λ (operator : Operating). operator.op) same ∙ c.requires.ready.op;
      widths = ap (λ (operator : Operating). operator.widths) same ∙ c.requires.ready.widths;
      stands = subst (λ (operator : Operating). StandsFor operator (map (table_at (state run c.args.context.now.step)) (inputs_of (op_at run n)))) (sym same) (subst (StandsFor c.args.ready.value.operator) (same_inputs run c.args.context.now.step c.requires.entered n c.requires.node is c.requires.inputs c.requires.clear) c.requires.ready.stands);
      stepped = subst (λ (operator : Operating). HasStepped run (c.args.context.now.step + 1) n operator.reads) (sym same) (stepped_once run c.args.context.now.step n 0 c.args.ready.value.operator.reads c.requires.ready.stepped (omega arith));
      own = ap (λ (table : Ticking). table.new) c.in_ok-ready.ensures.table ∙ own_after run c.args.context.now.step c.requires.entered n c.requires.node is c.requires.inputs c.requires.clear (arc_value {X = Ticking} c.args.ready.value.table).new c.requires.ready.own;
    }

pub holding-requires-clause-table : goal.holding-requires-clause-table
holding-requires-clause-table c =
    let run = c.args.context.now.run.now in
    let n = c.args.node in
    let is = not-true (is_source (node_at run n)) c.requires.operator in
    c.in_ok-ready.ensures.table ∙ rested_is run c.args.context.now.step c.requires.entered n c.requires.node is c.requires.inputs c.requires.clear (arc_value {X = Ticking} c.args.ready.value.table).new c.requires.ready.own
