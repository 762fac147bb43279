use Rattle.std.proofs.Common.{ap, sym, ◌∙◌, subst}
use Rattle.std.{proofs.lemmas.Result.IfOk-weaker, specs.List.AllByRecursion}
use Rattle.key_lists.proofs.Every.{every_unmapped}
use Rattle.tick_laws.specs.Reached.{table_before}
use Rattle.tick_model.specs.Operators.{inputs_of}
use Rattle.update_graph.{specs.Stands.{IsReady, Stays}, specs.Tags.{Tag, op_at, tag}, specs.declared.work.LiveNode.LiveNode, proofs.Following.follows_ok}
use Rattle.update_graph.proofs.work.Work.take_step.Goals as goal

pub stay-requires-clause-inputs : goal.stay-requires-clause-inputs
stay-requires-clause-inputs g c =
    let run = c.args.context.now.run.now in
    let here : Tag → Type 0 = λ share. Stays share.run share.step share.node in
    every_unmapped here (tag run c.args.context.now.step) (inputs_of (op_at run c.args.node))
    (subst (AllByRecursion here) (c.requires.shares) (c.all_stay.ensures c.if-all_stay.true))

pub advance_inside-requires-clause-ready : goal.advance_inside-requires-clause-ready
advance_inside-requires-clause-ready g c =
    let run = c.args.context.now.run.now in
    let step = c.args.context.now.step in
    subst (λ (ready : LiveNode). IsReady run (table_before run step) step c.args.node ready.operator ready.table) (sym c.into_inner-ready.ensures) c.into_ready-ready.ensures.ready

pub returns-then-all_stay-clause-follows : goal.returns-then-all_stay-clause-follows
returns-then-all_stay-clause-follows g c =
    follows_ok c.args.context.now.run.now c.args.context.now.step c.args.node c.stay.result c.args.self c.into_ready-ready.result.value.operator.reads c.stay.ensures.work c.into_ready-ready.ensures.reads
    (IfOk-weaker c.stay.result _ _ (λ out once. λ defined. once) c.stay.ensures.once)

pub returns-clause-follows : goal.returns-clause-follows
returns-clause-follows g c =
    follows_ok c.args.context.now.run.now c.args.context.now.step c.args.node c.advance_inside.result c.args.self c.into_inner-ready.result.operator.reads c.advance_inside.ensures.work
    (ap (λ (ready : LiveNode). ready.operator.reads) c.into_inner-ready.ensures ∙ c.into_ready-ready.ensures.reads) c.advance_inside.ensures.once
