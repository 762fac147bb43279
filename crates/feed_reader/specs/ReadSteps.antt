-- The steps of a feed, while they are read.
--     steps_of plan read      what is gathered so far, as it is written
--     AreReadSteps plan read      the rows have numbers of texts, each text stands in a row, and the block at hand is the one that is read
--     IsStep plan number before after told entry      what the record of a number says is gathered, or is refused
use Rattle.std.specs.Prelude.{◌≡◌, ℕ, ◌++◌, List, [], Option, Some, None, Result, Ok, Err, flat_map, length, map}
use Rattle.tick_model.{specs.declared.plan.Kind.Kind, specs.declared.plan.Plan.Plan}
use Rattle.feed_reader.{specs.declared.fault.TextKind.TextKind, specs.declared.feeds.ReadSteps.ReadSteps, specs.declared.place.BlockState.BlockState, specs.declared.place.BlockState.TheVariants.{Outside, Inside}, specs.declared.raw.RawBlock.RawBlock, specs.Cells.kinds_in, specs.Gathered.{Gathered, raw_steps, ended_blocks, gathered, AreNumberedSteps}, specs.Places.place_after, specs.Raw.{batch_texts, block_texts, AreTold}, specs.Said.Entry}

abbrev pub kinds_by_node : Plan → List (List Kind)
kinds_by_node plan = map (λ node. kinds_in node.columns) plan.nodes

abbrev pub steps_of : Plan → ReadSteps → Gathered
steps_of plan read = raw_steps read.read.texts (kinds_by_node plan) read.feed

abbrev pub steps_texts : Gathered → List (List ℕ)
steps_texts so_far = flat_map batch_texts so_far.batches ++ flat_map block_texts (ended_blocks so_far)

-- the block at hand is of the source whose block is read; between two steps there is none
abbrev pub IsAt : BlockState → Gathered → Type 0
IsAt Outside so_far = (so_far.blocks ≡ []) × (so_far.block ≡ None)
IsAt (Inside table part last) so_far = (block : RawBlock) × (so_far.block ≡ Some block) × (block.table ≡ table)

pub record AreReadSteps (plan : Plan) (read : ReadSteps) : Type 0 where
  pub numbered : AreNumberedSteps (kinds_by_node plan) (length read.read.texts) read.feed
  pub told : AreTold read.read.texts (steps_texts (steps_of plan read))
  pub at : IsAt read.place (steps_of plan read)

abbrev pub IsStep : Plan → ℕ → ReadSteps → ReadSteps → Result (Unit {0}) TextKind → Result Entry TextKind → Type 0
IsStep plan number before after (Ok done) (Ok entry) = (after.place ≡ place_after before.place entry) × (steps_of plan after ≡ gathered (steps_of plan before) number entry)
IsStep plan number before after (Err kind) (Err refused) = kind ≡ refused
IsStep plan number before after told entry = ⊥
