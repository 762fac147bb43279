use Rattle.std.proofs.Common.{ap, sym, ◌∙◌, subst, ◌<◌, length, get_or}
use Rattle.std.{specs.List.AllByRecursion, specs.Prelude.map}
use Rattle.table_operator.specs.Inputs.{tables}
use Rattle.source_changes.specs.Faults.{IsFault}
use Rattle.tick_laws.{specs.Bounded.AreSourceTables, proofs.LawfulSources.sources_bounded}
use Rattle.tick_model.{specs.declared.feed.Batch.Batch, specs.Changes.change_of, specs.LawfulRuns.{IsLawfulBlock, sources_of}}
use Rattle.update_graph.{proofs.Batches.{entered_next, fault_is, keys_after, known_are, known_keys, ticks_are}, proofs.Changing.at_place}
use Rattle.update_graph.proofs.graph.changes_of.Goals as goal

pub changes-requires-clause-blocks : goal.changes-requires-clause-blocks
changes-requires-clause-blocks g c =
    let run = c.args.context.now.run.now in (
      length run.texts,
      at_place (λ (batch : Batch). AllByRecursion (IsLawfulBlock run.plan (length run.texts)) batch.blocks) run.batches c.as_slice.result.now c.requires.lawful.batches c.as_slice.ensures c.args.step c.index-as_slice-step.result
          (subst (λ batches. c.args.step < length batches) (sym c.as_slice.ensures) c.requires.next) c.index-as_slice-step.is,
    )

pub changes-requires-clause-tables : goal.changes-requires-clause-tables
changes-requires-clause-tables g c =
    let run = c.args.context.now.run.now in
    subst (AreSourceTables (sources_of run.plan.nodes)) (sym (known_are run c.args.step c.deref.result.now (tables c.args.sources.now) (ap (map _) c.deref.ensures.value ∙ c.in_ok-known.ensures) c.requires.sources))
    (sources_bounded run c.requires.lawful c.args.step c.requires.reached.batches)

pub changes-requires-clause-keys : goal.changes-requires-clause-keys
changes-requires-clause-keys g c =
    c.requires.keys ∙ sym (known_keys c.args.context.now.run.now c.args.step c.deref.result.now (tables c.args.sources.now) (ap (map _) c.deref.ensures.value ∙ c.in_ok-known.ensures) c.requires.sources)

pub returns-in-Ok-clause-entered : goal.returns-in-Ok-clause-entered
returns-in-Ok-clause-entered g c =
    let run = c.args.context.now.run.now in
    let there = c.index-as_slice-step.is ∙ ap (λ batches. get_or batches c.args.step c.index-as_slice-step.result) c.as_slice.ensures in
    entered_next run c.args.step c.args.context.now.step c.requires.step c.requires.lawful c.requires.reached c.requires.next
    (fault_is run c.args.step c.deref.result.now (tables c.args.sources.now) (ap (map _) c.deref.ensures.value ∙ c.in_ok-known.ensures) c.requires.sources c.args.context.now.step c.requires.step c.requires.next c.index-as_slice-step.result there ∙ c.in-Ok.ensures.lawful)

pub returns-in-Ok-clause-changes : goal.returns-in-Ok-clause-changes
returns-in-Ok-clause-changes g c =
    let run = c.args.context.now.run.now in
    let there = c.index-as_slice-step.is ∙ ap (λ batches. get_or batches c.args.step c.index-as_slice-step.result) c.as_slice.ensures in
    c.in-Ok.ensures.changes
    ∙ ap (map change_of) (sym (ticks_are run c.args.step c.deref.result.now (tables c.args.sources.now) (ap (map _) c.deref.ensures.value ∙ c.in_ok-known.ensures) c.requires.sources c.args.context.now.step c.requires.step c.requires.next c.index-as_slice-step.result there))

pub returns-in-Ok-clause-keys : goal.returns-in-Ok-clause-keys
returns-in-Ok-clause-keys g c =
    let run = c.args.context.now.run.now in
    let there = c.index-as_slice-step.is ∙ ap (λ batches. get_or batches c.args.step c.index-as_slice-step.result) c.as_slice.ensures in
    c.in-Ok.ensures.keys ∙ keys_after run c.args.step c.deref.result.now (tables c.args.sources.now) (ap (map _) c.deref.ensures.value ∙ c.in_ok-known.ensures) c.requires.sources c.args.context.now.step c.requires.step c.requires.next c.index-as_slice-step.result there

pub returns-clause-cause : goal.returns-clause-cause
returns-clause-cause g c =
    let run = c.args.context.now.run.now in
    let there = c.index-as_slice-step.is ∙ ap (λ batches. get_or batches c.args.step c.index-as_slice-step.result) c.as_slice.ensures in
    c.refused.ensures run
    (subst (λ found. IsFault found c.in-Err.fault) (sym (fault_is run c.args.step c.deref.result.now (tables c.args.sources.now) (ap (map _) c.deref.ensures.value ∙ c.in_ok-known.ensures) c.requires.sources c.args.context.now.step c.requires.step c.requires.next c.index-as_slice-step.result there))
    c.in-Err.ensures.cause)
