use Rattle.std.proofs.Common.{◌∙◌, ℕ, sym, ap, subst, length, List, arith}
use Rattle.tick_model.specs.declared.plan.Kind.{Kind}
use Rattle.feed_reader.{specs.declared.gathered.FeedBuilder.FeedBuilder as Read, specs.declared.place.BlockState.TheVariants.Outside, specs.Gathered.{nothing, raw_steps}, specs.Raw.AreNumberedBatches, specs.ReadSteps.{kinds_by_node, steps_of}, specs.Records.{records_of, left_of, at_hand}, proofs.FeedLemmas.{left_to_read, feed_start, within_bytes}, proofs.RecordLemmas.{next_is, few_records}, proofs.StepLemmas.{at_start, batches_numbered, step_refused, step_told}}
use Rattle.feed_reader.proofs.feeds.read_feed.Goals as goal

pub records-init : goal.records-init
records-init c =
    let plan = c.args.plan.now in
    let records = records_of c.args.bytes.now in
    let left = c.of-records.ensures.left in
    let empty = ap (λ (feed : Read). raw_steps c.new.result.texts (kinds_by_node plan) feed) c.new-2.ensures in
    record {
      reading = c.of-records.ensures.reading;
      steps = at_start plan c.new.result c.new-2.result c.new.ensures.texts c.new-2.ensures;
      told = feed_start plan records ∙ ap (left_to_read plan Outside nothing 0) (sym left) ∙ ap (λ feed. left_to_read plan Outside feed 0 (left_of c.of-records.result)) (sym empty);
      few = omega (arith, ap (λ (feed : Read). length feed.batches) c.new-2.ensures);
      rest = omega (arith, ap length left, few_records c.args.bytes.now);
    }

pub records-preserved : goal.records-preserved
records-preserved c =
    let plan = c.args.plan.now in
    let before = c.records.steps in
    let fields = at_hand c.next.new.self in
    let rest = left_of c.next.new.self in
    let next = next_is c.in_ok-next.field-0 (left_of c.records.records) fields rest c.in-Record.is c.in_ok-next.ensures.reading in
    let step = step_told plan before c.take.new.self c.records.number fields rest c.in-Ok.field-0 (rw c.in-Ok.is at c.in_ok-take-in-Record.ensures.told) in
    record {
      reading = c.in_ok-next.ensures.goes c.in-Record.is;
      steps = rw c.in-Ok.is at c.in_ok-take-in-Record.ensures.steps;
      told = c.records.invariant.told ∙ ap (left_to_read plan before.place (steps_of plan before) c.records.number) next ∙ step.0;
      few = step.1 c.records.invariant.few;
      rest = omega (arith, ap length next, c.records.invariant.rest);
    }

pub returns-in-Err-clause-answers : goal.returns-in-Err-clause-answers
returns-in-Err-clause-answers c =
    let plan = c.args.plan.now in
    let before = c.records.steps in
    let fields = at_hand c.next.new.self in
    let rest = left_of c.next.new.self in
    let next = next_is c.in_ok-next.field-0 (left_of c.records.records) fields rest c.in-Record.is c.in_ok-next.ensures.reading in
    within_bytes plan c.args.bytes.now (omega arith) ∙ c.records.invariant.told ∙ ap (left_to_read plan before.place (steps_of plan before) c.records.number) next
    ∙ step_refused plan before c.take.new.self c.records.number fields rest c.in-Err.kind (rw c.in-Err.is at c.in_ok-take-in-Record.ensures.told)

pub invariant_of-result : goal.invariant_of-result
invariant_of-result c =
    let plan = c.args.plan.now in
    let steps = c.records.steps in
    let outside = sym c.is_outside.ensures ∙ c.if-is_outside.true in
    subst (λ (kinds : List (List Kind)). AreNumberedBatches kinds c.into_texts.result steps.feed.batches) (sym c.in_ok-kinds_by_node.ensures)
    (subst (λ (texts : List (List ℕ)). AreNumberedBatches (kinds_by_node plan) texts steps.feed.batches) (sym c.into_texts.ensures) (batches_numbered plan steps outside c.records.invariant.steps))
