-- How many cells are read where blocks change sources.
--     read_rows update      the rows that are read: the modified ones twice, before the step and now, and the added ones
--     step_reads step      a step of a source takes no more reads
--     block_reads plan block      nor does what a block adds to it
use Rattle.std.specs.Prelude.{ℕ, ◌+◌, ◌*◌, length}
use Rattle.tick_model.{specs.declared.feed.Block.Block, specs.declared.plan.Plan.Plan, specs.Plans.columns_at, specs.Sources.update_of, specs.Updates.Update}
use Rattle.source_changes.specs.Stepping.{Stepping}

abbrev pub read_rows : Update → ℕ
read_rows update = 2 * length update.modified + length update.added

abbrev pub step_reads : Stepping → ℕ
step_reads step = step.old.width * read_rows step.update

abbrev pub block_reads : Plan → Block → ℕ
block_reads plan block = length (columns_at plan.nodes block.table) * read_rows (update_of block)
