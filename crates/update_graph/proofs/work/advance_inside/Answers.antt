use Rattle.std.proofs.Common.{refl, ap, sym, ◌∙◌, subst, ◌+◌, ◌-◌, ◌≤◌, arith, true≢false, None, Vec, Global}
use Rattle.std.{proofs.lemmas.Bool.not-true, specs.Prelude.option_map, specs.declared.sync.Arc.Arc}
use Rattle.table_operator.{specs.Inputs.tables, specs.Made.IsCause}
use Rattle.operators.{specs.Inputs.IsShown, specs.Operating.StandsFor}
use Rattle.tick_model.{specs.Evaluation.{has_table, is_source}, specs.Operators.fault_of, specs.States.tick}
use Rattle.tick_table.specs.Ticking.{Ticking}
use Rattle.update_graph.{specs.Stands.{AreHanded, HasStepped}, specs.Tags.node_at, proofs.Changing.{change_fits, change_lawful}, proofs.Counting.{defined_all, stepped_once}, proofs.StepInputs.{exact_are, handed, keys_are, news_are, no_input, olds_are, own_change, own_fault, own_ticks, rows_are, shown_are, tried_by, tried_is, widths_are}}
use Rattle.update_graph.proofs.work.advance_inside.Goals as goal

pub step-requires : goal.step-requires
step-requires g c =
    let given = handed c.requires.entered c.requires.node c.requires.operator c.requires.ready.op c.requires.shares c.in-Some.is c.deref-in-Some.ensures.value c.in_ok-handed.ensures in
    record {
      widths = widths_are given ∙ sym c.requires.ready.widths;
      exact = exact_are given;
      rows = rows_are given;
      keys = keys_are given;
      stands = subst (StandsFor c.args.ready.operator) (sym (olds_are given)) c.requires.ready.stands;
      shown = subst (IsShown c.args.ready.operator.op (tables c.deref-in-Some.result.now)) (sym c.requires.ready.own ∙ ap (λ (t : Ticking). t.new) (sym c.deref.ensures)) (shown_are given);
    }

pub change_table-requires-clause-lawful : goal.change_table-requires-clause-lawful
change_table-requires-clause-lawful g c =
    let given = handed c.requires.entered c.requires.node c.requires.operator c.requires.ready.op c.requires.shares c.in-Some.is c.deref-in-Some.ensures.value c.in_ok-handed.ensures in
    let own = own_change given c.in-Ok.change c.in-Ok.ensures.sound c.in-Ok.ensures.change in
    change_lawful (tick c.args.context.now.run.now c.args.context.now.step c.args.node) own.from.is_tick _ (c.requires.ready.own ∙ sym own.from.old_is) c.in-Ok.change own.same

pub change_table-requires-clause-whole : goal.change_table-requires-clause-whole
change_table-requires-clause-whole g c =
    let given = handed c.requires.entered c.requires.node c.requires.operator c.requires.ready.op c.requires.shares c.in-Some.is c.deref-in-Some.ensures.value c.in_ok-handed.ensures in
    let own = own_change given c.in-Ok.change c.in-Ok.ensures.sound c.in-Ok.ensures.change in
    change_fits (tick c.args.context.now.run.now c.args.context.now.step c.args.node) own.from.is_tick _ (c.requires.ready.own ∙ sym own.from.old_is) c.in-Ok.change own.same

pub with_table-requires-clause-defined : goal.with_table-requires-clause-defined
with_table-requires-clause-defined g c =
    let given = handed c.requires.entered c.requires.node c.requires.operator c.requires.ready.op c.requires.shares c.in-Some.is c.deref-in-Some.ensures.value c.in_ok-handed.ensures in
    (own_change given c.in-Ok.change c.in-Ok.ensures.sound c.in-Ok.ensures.change).defined

pub with_table-requires-clause-table : goal.with_table-requires-clause-table
with_table-requires-clause-table g c =
    let given = handed c.requires.entered c.requires.node c.requires.operator c.requires.ready.op c.requires.shares c.in-Some.is c.deref-in-Some.ensures.value c.in_ok-handed.ensures in
    let own = own_change given c.in-Ok.change c.in-Ok.ensures.sound c.in-Ok.ensures.change in
    c.in_ok-change_table-in-Ok.ensures (tick c.args.context.now.run.now c.args.context.now.step c.args.node) own.from.is_tick (c.requires.ready.own ∙ sym own.from.old_is) own.same

pub with_table-requires-clause-ready : goal.with_table-requires-clause-ready
with_table-requires-clause-ready g c =
    let given = handed c.requires.entered c.requires.node c.requires.operator c.requires.ready.op c.requires.shares c.in-Some.is c.deref-in-Some.ensures.value c.in_ok-handed.ensures in
    let own = own_change given c.in-Ok.change c.in-Ok.ensures.sound c.in-Ok.ensures.change in
    let run = c.args.context.now.run.now in
    let step = c.args.context.now.step in
    let n = c.args.node in
    let tried = tried_by given c.args.reads.now c.step.new.reads c.requires.ready.widths (c.in-Ok.ensures.change (tick c.args.context.now.run.now c.args.context.now.step) (own_ticks given)) c.in-Ok.ensures.reads in
    let few = subst (λ k. c.step.new.reads ≤ c.args.reads.now + k) (tried_is run step c.requires.entered n c.requires.node given.operator own.defined) tried in
    record {
      op = c.in-Ok.ensures.op ∙ c.requires.ready.op;
      widths = c.in-Ok.ensures.widths ∙ c.requires.ready.widths;
      stands = subst (StandsFor c.in-Ok.operator) (news_are given) c.in-Ok.ensures.stands;
      own = ap (λ (t : Ticking). t.new) (c.in_ok-change_table-in-Ok.ensures (tick c.args.context.now.run.now c.args.context.now.step c.args.node) own.from.is_tick (c.requires.ready.own ∙ sym own.from.old_is) own.same) ∙ own.from.new_is;
      stepped = subst (HasStepped run (step + 1) n) (sym c.in-Ok.ensures.steps) (stepped_once run step n (c.step.new.reads - c.args.reads.now) c.args.ready.operator.reads c.requires.ready.stepped (omega (arith, few)));
    }

pub without_step-requires : goal.without_step-requires
without_step-requires g c =
    λ kind same.
    own_fault (handed c.requires.entered c.requires.node c.requires.operator c.requires.ready.op c.requires.shares c.in-Some.is c.deref-in-Some.ensures.value c.in_ok-handed.ensures) kind
    (λ table there. subst (λ fault. IsCause fault (fault_of c.args.ready.operator.op table)) same (c.in-Err.ensures.cause table there))

pub returns-in_err-change_table-in-Ok-clause-tried : goal.returns-in_err-change_table-in-Ok-clause-tried
returns-in_err-change_table-in-Ok-clause-tried g c =
    let given = handed c.requires.entered c.requires.node c.requires.operator c.requires.ready.op c.requires.shares c.in-Some.is c.deref-in-Some.ensures.value c.in_ok-handed.ensures in
    tried_by given c.args.reads.now c.step.new.reads c.requires.ready.widths (c.in-Ok.ensures.change (tick c.args.context.now.run.now c.args.context.now.step) (own_ticks given)) c.in-Ok.ensures.reads

pub returns-in-Ok-clause-tried : goal.returns-in-Ok-clause-tried
returns-in-Ok-clause-tried g c =
    let given = handed c.requires.entered c.requires.node c.requires.operator c.requires.ready.op c.requires.shares c.in-Some.is c.deref-in-Some.ensures.value c.in_ok-handed.ensures in
    tried_by given c.args.reads.now c.step.new.reads c.requires.ready.widths (c.in-Ok.ensures.change (tick c.args.context.now.run.now c.args.context.now.step) (own_ticks given)) c.in-Ok.ensures.reads

pub returns-in-Some-clause-tried : goal.returns-in-Some-clause-tried
returns-in-Some-clause-tried g c =
    let given = handed c.requires.entered c.requires.node c.requires.operator c.requires.ready.op c.requires.shares c.in-Some.is c.deref-in-Some.ensures.value c.in_ok-handed.ensures in
    tried_by given c.args.reads.now c.step.new.reads c.requires.ready.widths refl (c.in-Err.ensures.refused (tick c.args.context.now.run.now c.args.context.now.step) (own_ticks given))

pub without_table-requires-clause-kept : goal.without_table-requires-clause-kept
without_table-requires-clause-kept g c =
    let run = c.args.context.now.run.now in
    let none : AreHanded c.args.shares None = subst (λ found. AreHanded c.args.shares (option_map (λ (all : Vec (Arc Ticking Global) Global). all.items) found)) c.in-None.is c.in_ok-handed.ensures in
    no_input run c.args.context.now.step c.requires.entered c.args.node c.requires.node (not-true (is_source (node_at run c.args.node)) c.requires.operator) c.args.shares c.requires.shares none

pub without_table-requires-clause-undefined : goal.without_table-requires-clause-undefined
without_table-requires-clause-undefined g c =
    let run = c.args.context.now.run.now in
    let none : AreHanded c.args.shares None = subst (λ found. AreHanded c.args.shares (option_map (λ (all : Vec (Arc Ticking Global) Global). all.items) found)) c.in-None.is c.in_ok-handed.ensures in
    ap has_table (no_input run c.args.context.now.step c.requires.entered c.args.node c.requires.node (not-true (is_source (node_at run c.args.node)) c.requires.operator) c.args.shares c.requires.shares none)

pub returns-in-Some-clause-none : goal.returns-in-Some-clause-none
returns-in-Some-clause-none g c =
    λ none. absurd (defined_all c.args.shares (subst (λ found. AreHanded c.args.shares (option_map (λ (all : Vec (Arc Ticking Global) Global). all.items) found)) c.in-Some.is c.in_ok-handed.ensures).0 none)

pub returns-in_err-change_table-in-Ok-clause-none : goal.returns-in_err-change_table-in-Ok-clause-none
returns-in_err-change_table-in-Ok-clause-none g c =
    λ none. absurd (defined_all c.args.shares (subst (λ found. AreHanded c.args.shares (option_map (λ (all : Vec (Arc Ticking Global) Global). all.items) found)) c.in-Some.is c.in_ok-handed.ensures).0 none)

pub returns-in-Ok-clause-none : goal.returns-in-Ok-clause-none
returns-in-Ok-clause-none g c =
    λ none. absurd (defined_all c.args.shares (subst (λ found. AreHanded c.args.shares (option_map (λ (all : Vec (Arc Ticking Global) Global). all.items) found)) c.in-Some.is c.in_ok-handed.ensures).0 none)

pub returns-clause-once : goal.returns-clause-once
returns-clause-once g c =
    let run = c.args.context.now.run.now in
    let none : AreHanded c.args.shares None = subst (λ found. AreHanded c.args.shares (option_map (λ (all : Vec (Arc Ticking Global) Global). all.items) found)) c.in-None.is c.in_ok-handed.ensures in
    λ defined. absurd (true≢false (sym defined ∙ ap has_table (no_input run c.args.context.now.step c.requires.entered c.args.node c.requires.node (not-true (is_source (node_at run c.args.node)) c.requires.operator) c.args.shares c.requires.shares none)))
