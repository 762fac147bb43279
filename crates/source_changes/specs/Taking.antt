-- A source that takes the blocks of a step.
--     taking blocks      the step as the blocks so far have left it
--     IsTaking blocks      the blocks are those of a tick
use Rattle.source_changes.{specs.declared.taking.TakenBlocks.TakenBlocks, specs.Stepping.{IsStepping, Stepping}, specs.Waiting.{IsGathered, joined}}
use Rattle.tick_model.specs.Tables.{keys}

abbrev pub taking : TakenBlocks → Stepping
taking blocks = record {
  old = blocks.table.now.new;
  update = joined (keys blocks.table.now.new.rows) blocks.gathered.update blocks.gathered.waiting;
  told = blocks.told;
}

pub record IsTaking (blocks : TakenBlocks) : Type 0 where
  pub gathered : IsGathered (keys blocks.table.now.new.rows) blocks.gathered
  pub stepping : IsStepping (taking blocks)
