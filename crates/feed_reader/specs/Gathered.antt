-- The steps of a feed, gathered record by record.
--     gathered so_far number entry      what is gathered after one more record
--     raw_steps texts kinds read      what is gathered, as it is written
--     AreNumberedSteps kinds texts read      the rows that are gathered have numbers of texts
use Rattle.std.{specs.Prelude.{◌≡◌, ℕ, ℤ, List, [], ◌∷◌, ◌++◌, Option, Some, None, map, length, option_map}, specs.List.AllByRecursion, specs.Option.{option_to_list, ForSome}}
use Rattle.feed_reader.{specs.Said.{Entry, Block, Removed, Shift, Added, Modified, End, row_of_key}, specs.declared.entries.FeedEntry.FeedEntry as Told, specs.declared.gathered.FeedBuilder.FeedBuilder as Read, specs.declared.raw.RawBatch.RawBatch, specs.declared.raw.RawBlock.RawBlock, specs.Raw.{kinds_at, raw_batch, raw_block, IsNumberedRow, IsNumberedBlock}}
use Rattle.feed_reader.specs.declared.entries.FeedEntry.TheVariants as told
use Rattle.tick_model.{specs.declared.feed.Block.Block as BlockRead, specs.declared.plan.Kind.Kind}

pub record Gathered : Type 0 where
  pub batches : List RawBatch
  pub blocks : List RawBlock
  pub block : Option RawBlock

-- what is gathered, as it is written
abbrev pub raw_steps : List (List ℕ) → List (List Kind) → Read → Gathered
raw_steps texts kinds read = record {
  batches = map (raw_batch texts kinds) read.batches;
  blocks = map (raw_block texts kinds) read.blocks;
  block = option_map (raw_block texts kinds) read.block;
}

-- a row that is put into a block has as many cells as those before it
abbrev pub FitsRow : Told → ℕ → BlockRead → Type 0
FitsRow (told.Added key) width block = AllByRecursion (λ row. length row.cells ≡ width) block.added
FitsRow (told.Modified key) width block = AllByRecursion (λ row. length row.cells ≡ width) block.modified
FitsRow _ width block = Unit {0}

-- the row of an entry, of these columns, has numbers of texts
abbrev pub IsNumberedEntry : List Kind → ℕ → List ℤ → Told → Type 0
IsNumberedEntry kinds texts cells (told.Added key) = IsNumberedRow kinds texts (row_of_key cells key)
IsNumberedEntry kinds texts cells (told.Modified key) = IsNumberedRow kinds texts (row_of_key cells key)
IsNumberedEntry kinds texts cells _ = Unit {0}

pub record AreNumberedSteps (kinds : List (List Kind)) (texts : ℕ) (read : Read) : Type 0 where
  pub batches : AllByRecursion (λ batch. AllByRecursion (IsNumberedBlock kinds texts) batch.blocks) read.batches
  pub blocks : AllByRecursion (IsNumberedBlock kinds texts) read.blocks
  pub block : ForSome read.block (IsNumberedBlock kinds texts)

-- the kinds of the columns of the block at hand
abbrev pub kinds_of_block : List (List Kind) → Option BlockRead → List Kind
kinds_of_block kinds None = []
kinds_of_block kinds (Some block) = kinds_at kinds block.table

abbrev pub nothing : Gathered
nothing = record { batches = []; blocks = []; block = None }

-- the block at hand is ended
abbrev pub ended_blocks : Gathered → List RawBlock
ended_blocks so_far = so_far.blocks ++ option_to_list so_far.block

-- the block at hand goes on
abbrev pub with_entry : Entry → RawBlock → RawBlock
with_entry (Block table) block = block
with_entry (Removed range) block = record block { removed = block.removed ++ range ∷ [] }
with_entry (Shift range) block = record block { shifts = block.shifts ++ range ∷ [] }
with_entry (Added row) block = record block { added = block.added ++ row ∷ [] }
with_entry (Modified row) block = record block { modified = block.modified ++ row ∷ [] }
with_entry End block = block

abbrev pub begun : ℕ → ℕ → RawBlock
begun table number = record { table = table; number = number; removed = []; shifts = []; added = []; modified = [] }

abbrev pub gathered : Gathered → ℕ → Entry → Gathered
gathered so_far number (Block table) = record so_far { blocks = ended_blocks so_far; block = Some (begun table number) }
gathered so_far number End = record { batches = so_far.batches ++ (record { blocks = ended_blocks so_far }) ∷ []; blocks = []; block = None }
gathered so_far number entry = record so_far { block = option_map (with_entry entry) so_far.block }
