use Rattle.std.proofs.Common.{◌≡◌, refl, ap, sym, ◌∙◌, subst, ◌<◌, arith, [], length, map}
use Rattle.std.{specs.List.AllByRecursion, proofs.lemmas.List.length-map, proofs.lemmas.Bool.not-true}
use Rattle.key_lists.proofs.Every.{every_weaker}
use Rattle.operators.{specs.Operating.{CanBeMade, Operating, StandsFor}, specs.Planned.input_widths}
use Rattle.tick_model.{specs.declared.plan.Op.Op, specs.Evaluation.is_source, specs.Operators.inputs_of, specs.Plans.columns_at}
use Rattle.tick_table.specs.Ticking.{Ticking, no_rows}
use Rattle.update_graph.{specs.Stands.HasStepped, specs.Tags.node_at, proofs.EnteredTicks.lesser, proofs.OperatorLaws.{begin_inputs, begin_own, can_be_made}, proofs.StepInputs.ok_is}
use Rattle.update_graph.proofs.opening.fresh.Goals as goal

pub widths_of-requires-clause-inputs : goal.widths_of-requires-clause-inputs
widths_of-requires-clause-inputs c =
    let run = c.args.run.now in
    subst (λ (op : Op). AllByRecursion (λ input. input < length run.plan.nodes) (inputs_of op)) (sym c.requires.op)
    (every_weaker (λ input. input < c.args.node) (λ input. input < length run.plan.nodes) _ (λ input less. let within = c.requires.node in omega (arith, less, within)) (lesser run c.requires.lawful c.args.node c.requires.node))

pub new-requires-3-clause-count : goal.new-requires-3-clause-count
new-requires-3-clause-count c = ap length (c.deref.ensures.value ∙ c.in_ok-widths.ensures) ∙ length-map (inputs_of c.args.op.now) (λ input. length (columns_at c.args.run.now.plan.nodes input))

pub new-requires-3-clause-made : goal.new-requires-3-clause-made
new-requires-3-clause-made c =
    let run = c.args.run.now in
    subst (CanBeMade c.args.op.now) (sym (c.deref.ensures.value ∙ c.in_ok-widths.ensures))
    (subst (λ (op : Op). CanBeMade op (input_widths run.plan op)) (sym c.requires.op) (can_be_made run c.requires.lawful c.args.node c.requires.node (not-true (is_source (node_at run c.args.node)) c.requires.operator)))

pub returns-in-Ok : goal.returns-in-Ok
returns-in-Ok c =
    let run = c.args.run.now in
    let widths = c.deref.ensures.value ∙ c.in_ok-widths.ensures ∙ ap (input_widths run.plan) c.requires.op in
    let stands = ok_is (λ (operator : Operating). StandsFor operator (map no_rows c.deref.result.now)) c.in-Ok.is c.new-3.ensures.stands in
    record {
      op = ok_is (λ (operator : Operating). operator.op ≡ c.args.op.now) c.in-Ok.is c.new-3.ensures.op ∙ c.requires.op;
      widths = ok_is (λ (operator : Operating). operator.widths ≡ c.deref.result.now) c.in-Ok.is c.new-3.ensures.widths ∙ widths;
      stands = subst (StandsFor c.in-Ok.operator) (ap (map no_rows) widths ∙ sym (begin_inputs run c.requires.lawful c.args.node c.requires.node)) stands;
      stepped = subst (HasStepped run 0 c.args.node) (sym (ok_is (λ (operator : Operating). operator.reads ≡ []) c.in-Ok.is c.new-3.ensures.steps)) (record { each = refl; within = λ step below. absurd (omega (arith, below)) });
      own = ap (λ (t : Ticking). t.new) (c.in_ok-table.ensures.ok ∙ c.in_ok-own.ensures) ∙ ap no_rows c.width_of.ensures.width ∙ sym (begin_own run c.args.node c.requires.node);
    }
