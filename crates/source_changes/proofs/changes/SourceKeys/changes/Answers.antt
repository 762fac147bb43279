use Rattle.std.proofs.Common.{◌≡◌, ap, ap₂, sym, ◌∙◌, subst, arith, List, map, length, Bor}
use Rattle.std.specs.Prelude.{sum_by}
use Rattle.key_lists.proofs.Every.{map_map}
use Rattle.tick_laws.specs.Bounded.{AreSourceTables}
use Rattle.tick_model.{specs.declared.feed.Block.Block, specs.Changes.change_of, specs.LawfulRuns.sources_of, specs.Sources.after_blocks, specs.Tables.keys, specs.Updates.Tick}
use Rattle.tick_table.specs.Ticking.{Ticking}
use Rattle.source_changes.{specs.declared.taking.TakenBlocks.TakenBlocks, specs.Reads.{block_reads, step_reads}, specs.Stepping.ticked, specs.Taking.taking, proofs.Turns.{news_follow, whole}}
use Rattle.source_changes.proofs.changes.SourceKeys.changes.Goals as goal

pub take_blocks-requires-clause-tables : goal.take_blocks-requires-clause-tables
take_blocks-requires-clause-tables g c =
    subst (AreSourceTables (sources_of c.args.plan.now.nodes))
    (sym (ap (map (λ (step : TakenBlocks). (ticked (taking step)).new)) c.deref_mut.ensures.value ∙ news_follow (λ (table : Bor Ticking). table.now.new) c.args.tables.now c.in_ok-steps.steps.items c.in_ok-steps.ensures.ticks))
    c.requires.tables

pub returns-clause-changes : goal.returns-clause-changes
returns-clause-changes g c =
    let items = c.in_ok-steps.steps.items in
    let new = c.take_blocks.new.steps in
    let was : length c.deref_mut.result.now ≡ length items = ap length c.deref_mut.ensures.value in
    let same : length new ≡ length items = omega (arith, was, c.take_blocks.auto.steps) in
    let len : c.in_ok-steps.steps.len ≡ length items = omega arith in
    let all = whole c.in_ok-steps.steps.len new items same len in
    let ticks =
    c.in_ok-take_blocks.ensures.ticks
    ∙ ap₂ (λ (ticks : List Tick) (blocks : List Block). after_blocks c.args.plan.now ticks blocks) (ap (map (λ (step : TakenBlocks). ticked (taking step))) c.deref_mut.ensures.value ∙ c.in_ok-steps.ensures.ticks) c.as_slice.ensures in
    c.in_ok-changes.ensures.changes
    ∙ ap (map (λ (step : TakenBlocks). change_of (ticked (taking step)))) all
    ∙ sym (map_map change_of (λ (step : TakenBlocks). ticked (taking step)) new)
    ∙ ap (map change_of) ticks

pub returns-clause-keys : goal.returns-clause-keys
returns-clause-keys g c =
    let items = c.in_ok-steps.steps.items in
    let new = c.take_blocks.new.steps in
    let was : length c.deref_mut.result.now ≡ length items = ap length c.deref_mut.ensures.value in
    let same : length new ≡ length items = omega (arith, was, c.take_blocks.auto.steps) in
    let len : c.in_ok-steps.steps.len ≡ length items = omega arith in
    let all = whole c.in_ok-steps.steps.len new items same len in
    let ticks =
    c.in_ok-take_blocks.ensures.ticks
    ∙ ap₂ (λ (ticks : List Tick) (blocks : List Block). after_blocks c.args.plan.now ticks blocks) (ap (map (λ (step : TakenBlocks). ticked (taking step))) c.deref_mut.ensures.value ∙ c.in_ok-steps.ensures.ticks) c.as_slice.ensures in
    c.in_ok-changes.ensures.keys
    ∙ ap (map (λ (step : TakenBlocks). keys (ticked (taking step)).new.rows)) all
    ∙ sym (map_map (λ (tick : Tick). keys tick.new.rows) (λ (step : TakenBlocks). ticked (taking step)) new)
    ∙ ap (map (λ (tick : Tick). keys tick.new.rows)) ticks

pub returns-in_err-changes-clause-reads : goal.returns-in_err-changes-clause-reads
returns-in_err-changes-clause-reads g c =
    let items = c.in_ok-steps.steps.items in
    let new = c.take_blocks.new.steps in
    let cost = sum_by (λ (step : TakenBlocks). step_reads (taking step)) in
    let was : length c.deref_mut.result.now ≡ length items = ap length c.deref_mut.ensures.value in
    let same : length new ≡ length items = omega (arith, was, c.take_blocks.auto.steps) in
    let len : c.in_ok-steps.steps.len ≡ length items = omega arith in
    omega (
      arith,
      c.close_steps.ensures.reads,
      ap cost (whole c.in_ok-steps.steps.len new items same len),
      c.in_ok-take_blocks.ensures.reads,
      ap cost c.deref_mut.ensures.value,
      c.in_ok-steps.ensures.reads,
      ap (sum_by (block_reads c.args.plan.now)) c.as_slice.ensures,
    )

pub returns-clause-reads : goal.returns-clause-reads
returns-clause-reads g c =
    let items = c.in_ok-steps.steps.items in
    let new = c.take_blocks.new.steps in
    let cost = sum_by (λ (step : TakenBlocks). step_reads (taking step)) in
    let was : length c.deref_mut.result.now ≡ length items = ap length c.deref_mut.ensures.value in
    let same : length new ≡ length items = omega (arith, was, c.take_blocks.auto.steps) in
    let len : c.in_ok-steps.steps.len ≡ length items = omega arith in
    omega (
      arith,
      c.close_steps.ensures.reads,
      ap cost (whole c.in_ok-steps.steps.len new items same len),
      c.in_ok-take_blocks.ensures.reads,
      ap cost c.deref_mut.ensures.value,
      c.in_ok-steps.ensures.reads,
      ap (sum_by (block_reads c.args.plan.now)) c.as_slice.ensures,
    )
