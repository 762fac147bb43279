-- Blocks whose parts can be read as sets of keys and as a shift.
--     IsReadable block      its removed ranges and its shifts ascend, and so do the keys of its rows
use Rattle.std.{specs.Prelude.{◌+◌, ◌^◌, ◌<◌}, specs.List.AllByRecursion}
use Rattle.row_set.specs.Sets.{IsKeySet}
use Rattle.tick_model.{specs.declared.feed.Block.Block, specs.LawfulRuns.{AreRanges, record_count}, specs.Printable.{IsShift, IsShiftRange}, specs.Tables.keys}

pub record IsReadable (block : Block) : Type 0 where
  pub removed : AreRanges block.removed
  pub shifts : IsShift block.shifts
  pub ranges : AllByRecursion (IsShiftRange (2 ^ 40)) block.shifts
  pub added : IsKeySet (keys block.added)
  pub modified : IsKeySet (keys block.modified)
  pub records : block.number + record_count block < 2 ^ 64
