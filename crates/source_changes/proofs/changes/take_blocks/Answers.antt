use Rattle.std.proofs.Common.{◌≡◌, ap, sym, ◌∙◌, subst, arith, ◌+◌, ◌<◌, List, length, map}
use Rattle.std.{specs.Prelude.sum_by, proofs.Math.ListN.drop_of_length-le}
use Rattle.key_lists.{proofs.Every.{every_weaker, every-map, map_map}, proofs.Parts.every_at}
use Rattle.tick_laws.specs.Bounded.{AreSourceTables}
use Rattle.tick_model.{specs.declared.plan.Node.Node, specs.Evaluation.source_number, specs.LawfulRuns.sources_of, specs.Sources.{after_blocks, blocks_fault}}
use Rattle.source_changes.{specs.declared.taking.TakenBlocks.TakenBlocks, specs.Faults.IsFault, specs.Reads.{block_reads, step_reads}, specs.Stepping.{IsStepping, Stepping, ticked}, specs.Taking.{IsTaking, taking}, proofs.Turns.{below_there, bound, every_set, fault_there, faults_follow, reads_follow, sources_follow, steps_in_turn, ticks_follow, whole_there}, proofs.Walked.{node_at, readable_at, sources_from}}
use Rattle.source_changes.proofs.changes.take_blocks.Goals as goal

pub loop-block-init : goal.loop-block-init
loop-block-init c =
    let ticks = map_map ticked taking c.args.steps.now in
    record {
      all_taking = c.requires.taking;
      sources =
          sources_from (sources_of c.args.plan.now.nodes) (map taking c.args.steps.now)
          (every-map IsStepping taking c.args.steps.now (every_weaker IsTaking (λ (source : TakenBlocks). IsStepping (taking source)) c.args.steps.now (λ source h. h.stepping) c.requires.taking))
          (subst (AreSourceTables (sources_of c.args.plan.now.nodes)) (sym (map_map (λ (step : Stepping). (ticked step).new) taking c.args.steps.now)) c.requires.tables);
      ticks = ap (λ ticks. after_blocks c.args.plan.now ticks c.args.blocks.now) ticks;
      faults = ap (λ ticks. blocks_fault c.args.plan.now ticks c.args.blocks.now) ticks;
      reads = omega arith;
    }

pub place_of-place-requires : goal.place_of-place-requires
place_of-place-requires c =
    subst (λ (nodes : List Node). c.block-item.result.table < length nodes) (sym c.as_slice.ensures)
    (node_at c.args.plan.now c.requires.blocks.0 c.args.blocks.now c.loop-block.block-index c.block-item.result c.requires.blocks.1 c.block-item.is c.loop-block-test.true)

pub bounds-steps-place : goal.bounds-steps-place
bounds-steps-place c =
    let here : c.place_of-place.result ≡ source_number c.args.plan.now.nodes c.block-item.result.table =
    c.place_of-place.ensures ∙ ap (λ (nodes : List Node). source_number nodes c.block-item.result.table) c.as_slice.ensures in
    steps_in_turn c.args.plan.now c.requires.blocks.0 c.args.blocks.now c.loop-block.block-index c.block-item.result c.loop-block.steps c.place_of-place.result c.requires.blocks.1 c.block-item.is c.loop-block-test.true c.loop-block.invariant.sources here

pub take-requires-clause-taking : goal.take-requires-clause-taking
take-requires-clause-taking c =
    let here : c.place_of-place.result ≡ source_number c.args.plan.now.nodes c.block-item.result.table =
    c.place_of-place.ensures ∙ ap (λ (nodes : List Node). source_number nodes c.block-item.result.table) c.as_slice.ensures in
    every_at IsTaking c.loop-block.steps c.place_of-place.result c.index-steps-place.result (bound c.args.plan.now c.requires.blocks.0 c.args.blocks.now c.loop-block.block-index c.block-item.result c.loop-block.steps c.index-steps-place.result c.place_of-place.result c.requires.blocks.1 c.block-item.is c.loop-block-test.true c.loop-block.invariant.sources here) c.loop-block.invariant.all_taking

pub take-requires-clause-below : goal.take-requires-clause-below
take-requires-clause-below c =
    let here : c.place_of-place.result ≡ source_number c.args.plan.now.nodes c.block-item.result.table =
    c.place_of-place.ensures ∙ ap (λ (nodes : List Node). source_number nodes c.block-item.result.table) c.as_slice.ensures in
    below_there c.args.plan.now c.requires.blocks.0 c.args.blocks.now c.loop-block.block-index c.block-item.result c.loop-block.steps c.index-steps-place.result c.place_of-place.result c.requires.blocks.1 c.block-item.is c.loop-block-test.true c.loop-block.invariant.sources here

pub take-requires-clause-readable : goal.take-requires-clause-readable
take-requires-clause-readable c =
    readable_at c.args.plan.now c.requires.blocks.0 c.args.blocks.now c.loop-block.block-index c.block-item.result c.requires.blocks.1 c.block-item.is c.loop-block-test.true

pub take-requires-clause-whole : goal.take-requires-clause-whole
take-requires-clause-whole c =
    let here : c.place_of-place.result ≡ source_number c.args.plan.now.nodes c.block-item.result.table =
    c.place_of-place.ensures ∙ ap (λ (nodes : List Node). source_number nodes c.block-item.result.table) c.as_slice.ensures in
    whole_there c.args.plan.now c.requires.blocks.0 c.args.blocks.now c.loop-block.block-index c.block-item.result c.loop-block.steps c.index-steps-place.result c.place_of-place.result c.requires.blocks.1 c.block-item.is c.loop-block-test.true c.loop-block.invariant.sources here

pub returns-in-Err-clause-cause : goal.returns-in-Err-clause-cause
returns-in-Err-clause-cause c =
    let here : c.place_of-place.result ≡ source_number c.args.plan.now.nodes c.block-item.result.table =
    c.place_of-place.ensures ∙ ap (λ (nodes : List Node). source_number nodes c.block-item.result.table) c.as_slice.ensures in
    subst (λ o. IsFault o c.in-Err.fault) c.loop-block.invariant.faults
    (fault_there c.args.plan.now c.requires.blocks.0 c.args.blocks.now c.loop-block.block-index c.block-item.result c.loop-block.steps c.index-steps-place.result c.place_of-place.result c.requires.blocks.1 c.block-item.is c.loop-block-test.true c.loop-block.invariant.sources here c.in-Err.fault c.in-Err.ensures.cause)

pub loop-block-preserved : goal.loop-block-preserved
loop-block-preserved c =
    let here : c.place_of-place.result ≡ source_number c.args.plan.now.nodes c.block-item.result.table =
    c.place_of-place.ensures ∙ ap (λ (nodes : List Node). source_number nodes c.block-item.result.table) c.as_slice.ensures in
    record {
      all_taking = every_set IsTaking c.loop-block.steps c.place_of-place.result c.take.new.self c.loop-block.invariant.all_taking c.in-Ok.ensures.taking;
      sources = sources_follow c.args.plan.now c.requires.blocks.0 c.args.blocks.now c.loop-block.block-index c.block-item.result c.loop-block.steps c.index-steps-place.result c.place_of-place.result c.requires.blocks.1 c.block-item.is c.loop-block-test.true c.loop-block.invariant.sources here c.take.new.self c.in-Ok.ensures.tick c.in-Ok.ensures.taking c.in-Ok.ensures.lawful;
      ticks = ticks_follow c.args.plan.now c.requires.blocks.0 c.args.blocks.now c.loop-block.block-index c.block-item.result c.loop-block.steps c.index-steps-place.result c.place_of-place.result c.requires.blocks.1 c.block-item.is c.loop-block-test.true c.loop-block.invariant.sources here c.take.new.self c.in-Ok.ensures.tick c.in-Ok.ensures.taking c.in-Ok.ensures.lawful ∙ c.loop-block.invariant.ticks;
      faults = faults_follow c.args.plan.now c.requires.blocks.0 c.args.blocks.now c.loop-block.block-index c.block-item.result c.loop-block.steps c.index-steps-place.result c.place_of-place.result c.requires.blocks.1 c.block-item.is c.loop-block-test.true c.loop-block.invariant.sources here c.take.new.self c.in-Ok.ensures.tick c.in-Ok.ensures.taking c.in-Ok.ensures.lawful ∙ c.loop-block.invariant.faults;
      reads = reads_follow c.args.plan.now c.requires.blocks.0 c.args.blocks.now c.loop-block.block-index c.block-item.result c.loop-block.steps c.index-steps-place.result c.place_of-place.result c.requires.blocks.1 c.block-item.is c.loop-block-test.true c.loop-block.invariant.sources here c.take.new.self
          (sum_by (λ (step : TakenBlocks). step_reads (taking step)) c.args.steps.now + sum_by (block_reads c.args.plan.now) c.args.blocks.now) c.in-Ok.ensures.reads c.loop-block.invariant.reads;
    }

pub returns-clause-taking : goal.returns-clause-taking
returns-clause-taking c = c.loop-block.invariant.all_taking

pub returns-clause-lawful : goal.returns-clause-lawful
returns-clause-lawful c =
    sym c.loop-block.invariant.faults
    ∙ ap (blocks_fault c.args.plan.now (map ticked (map taking c.loop-block.steps))) (drop_of_length-le c.args.blocks.now c.loop-block-test.false)

pub returns-clause-ticks : goal.returns-clause-ticks
returns-clause-ticks c =
    sym (map_map ticked taking c.loop-block.steps)
    ∙ sym (ap (after_blocks c.args.plan.now (map ticked (map taking c.loop-block.steps))) (drop_of_length-le c.args.blocks.now c.loop-block-test.false))
    ∙ c.loop-block.invariant.ticks

pub returns-clause-reads : goal.returns-clause-reads
returns-clause-reads c = omega (arith, c.loop-block.invariant.reads)
