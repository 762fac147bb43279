-- The sources, as the blocks of a feed change them, one after the other.
--     source_ticks run step      each source's table before and after the step, with the rows that stay
use Rattle.std.{specs.Prelude.{ℕ, ◌+◌, ◌-◌, ◌^◌, ◌==◌, ◌&&◌, zero, suc, Bool, List, [], ◌∷◌, ◌++◌, Option, Some, None, map, flat_map, length, nat_lt, nat_le, slice_set, option_map, if◌then◌else◌, slice_index_or}, specs.Option.option_or, specs.List.{range_with_len, position_or_len, AllByRecursion}}
use Rattle.tick_model.{specs.declared.feed.Block.Block, specs.declared.update.KeyRange.KeyRange, specs.declared.feed.Run.Run, specs.declared.plan.Plan.Plan, specs.declared.table.PlainTable.PlainTable, specs.declared.update.KeyPair.KeyPair, specs.Tables.{keys, IsRow, IsTable, no_table}, specs.Shifts.{holds, composed}, specs.Updates.{Tick, Update, carry, pairs}, specs.Evaluation.source_number, specs.Rules.update_fault, specs.declared.update.FeedRule.FeedRule, specs.declared.update.FeedRule.TheVariants.{Update as ByUpdate, TooManyRows}, specs.declared.update.UpdateFault.TheVariants.{RemovedAbsent, ShiftBreaks, AddedTaken, ModifiedAbsent, ModifiedAdded, Memory}}
use Rattle.key_lists.specs.Keys.{IsRising}

abbrev pub is_within : KeyRange → ℕ → Bool
is_within range key = nat_le range.first key && nat_le key range.last

abbrev pub keys_within : KeyRange → List ℕ
keys_within range = range_with_len range.first (range.last + 1 - range.first)

-- what a block says of its source
abbrev pub update_of : Block → Update
update_of block = record {
  removed = flat_map keys_within block.removed;
  added = keys block.added;
  modified = keys block.modified;
  shifted = block.shifts;
  columns = [];
}

abbrev pub carried : PlainTable → Block → PlainTable
carried table block = carry table (update_of block) (block.added ++ block.modified)

-- a source has at most so many rows
abbrev pub too_many : ℕ → Option FeedRule
too_many rows = if nat_lt 4194304 rows then Some (TooManyRows rows) else None

-- the first rule that a block breaks on the rows of its source
abbrev pub block_fault : PlainTable → Block → Option FeedRule
block_fault table block =
    option_or (option_map ByUpdate (update_fault (2 ^ 40) (keys table.rows) (update_of block))) (too_many (length (carried table block).rows))

-- The record of the feed that breaks the rule. The records of a block follow each other: its own, then those of its removed ranges,
-- of its shifts, of its added and of its modified rows.
abbrev pub removed_record : Block → ℕ → ℕ
removed_record block key = block.number + 1 + position_or_len (λ range. is_within range key) block.removed

abbrev pub shift_record : Block → ℕ → ℕ → ℕ
shift_record block first second =
    let of_first = position_or_len (λ range. holds range first) block.shifts in
    let of_second = position_or_len (λ range. holds range second) block.shifts in
    block.number + 1 + length block.removed + (if nat_lt of_second (length block.shifts) then of_second else of_first)

abbrev pub added_record : Block → ℕ → ℕ
added_record block key = block.number + 1 + length block.removed + length block.shifts + position_or_len (λ row. row.key == key) block.added

abbrev pub modified_record : Block → ℕ → ℕ
modified_record block key =
    block.number + 1 + length block.removed + length block.shifts + length block.added + position_or_len (λ row. row.key == key) block.modified

abbrev pub record_of : Block → FeedRule → ℕ
record_of block (ByUpdate (RemovedAbsent key)) = removed_record block key
record_of block (ByUpdate (ShiftBreaks first second)) = shift_record block first second
record_of block (ByUpdate (AddedTaken key)) = added_record block key
record_of block (ByUpdate (ModifiedAbsent key)) = modified_record block key
record_of block (ByUpdate (ModifiedAdded key)) = modified_record block key
record_of block (ByUpdate Memory) = block.number
record_of block (TooManyRows rows) = block.number

-- a source that nothing has changed yet in this step
abbrev pub same_key : ℕ → KeyPair
same_key key = record { old = key; new = key }

abbrev pub unchanged : PlainTable → Tick
unchanged table = record { old = table; new = table; kept = map same_key (keys table.rows) }

-- a block carries its source further
abbrev pub carry_on : Tick → Block → Tick
carry_on tick block = record tick { new = carried tick.new block; kept = composed tick.kept (pairs tick.new (update_of block)) }

abbrev pub no_tick : Tick
no_tick = record { old = no_table; new = no_table; kept = [] }

abbrev pub tick_at : List Tick → ℕ → Tick
tick_at ticks place = slice_index_or ticks place no_tick

abbrev pub after_block : Plan → List Tick → Block → List Tick
after_block plan ticks block = let source = source_number plan.nodes block.table in slice_set ticks source (carry_on (tick_at ticks source) block)

abbrev pub after_blocks : Plan → List Tick → List Block → List Tick
after_blocks plan ticks [] = ticks
after_blocks plan ticks (block ∷ blocks) = after_blocks plan (after_block plan ticks block) blocks

-- the first block that breaks a rule, on the rows that the blocks before it have left
abbrev pub blocks_fault : Plan → List Tick → List Block → Option (ℕ × FeedRule)
blocks_fault plan ticks [] = None
blocks_fault plan ticks (block ∷ blocks) =
    option_or (option_map (λ rule. (record_of block rule, rule)) (block_fault (tick_at ticks (source_number plan.nodes block.table)).new block))
    (blocks_fault plan (after_block plan ticks block) blocks)

-- the blocks of a step; step 0 is the opening and has none
abbrev pub blocks_of : Run → ℕ → List Block
blocks_of run zero = []
blocks_of run (suc step) = slice_index_or (map (λ batch. batch.blocks) run.batches) step []

abbrev pub opened : PlainTable → Tick
opened table = record { old = record { width = table.width; rows = [] }; new = table; kept = [] }

abbrev pub new_table : Tick → PlainTable
new_table tick = tick.new

abbrev pub source_ticks : Run → ℕ → List Tick
source_ticks run zero = map opened run.opening
source_ticks run (suc step) = after_blocks run.plan (map (λ tick. unchanged tick.new) (source_ticks run step)) (blocks_of run (suc step))

abbrev pub sources : Run → ℕ → List PlainTable
sources run step = map new_table (source_ticks run step)

-- the record at which the batch of a step breaks a rule, and the rule
abbrev pub batch_fault : Run → ℕ → Option (ℕ × FeedRule)
batch_fault run zero = None
batch_fault run (suc step) = blocks_fault run.plan (map unchanged (sources run step)) (blocks_of run (suc step))

-- a block's rows are of its source's width, under rising keys
pub record IsBlock (width : ℕ) (block : Block) : Type 0 where
  pub added : AllByRecursion (IsRow width) block.added
  pub modified : AllByRecursion (IsRow width) block.modified
  pub rising_added : IsRising (keys block.added)
  pub rising_modified : IsRising (keys block.modified)

-- the width of the source that a block changes
abbrev pub block_width : Run → Block → ℕ
block_width run block = (slice_index_or run.opening (source_number run.plan.nodes block.table) no_table).width

-- the opening has tables, and each block has whole rows
pub record HasTables (run : Run) : Type 0 where
  pub opening : AllByRecursion IsTable run.opening
  pub blocks : AllByRecursion (λ batch. AllByRecursion (λ block. IsBlock (block_width run block) block) batch.blocks) run.batches
