-- Feeds.
--     feed_of plan bytes      the steps of a feed, or its first refused record
--     batches_of entries      the steps that the records make
use Rattle.std.{specs.Prelude.{ℕ, ◌+◌, Bool, true, false, List, [], ◌∷◌, Option, Some, None, Ok, Err, length, nat_lt, take_while, if◌then◌else◌}, specs.List.filter_map}
use Rattle.tick_model.{specs.declared.plan.Plan.Plan, specs.declared.update.KeyRange.KeyRange, specs.declared.update.ShiftRange.ShiftRange}
use Rattle.feed_reader.{specs.Said.{Entry, Block, Removed, Shift, Added, Modified, End}, specs.declared.fault.TextKind.TheVariants.{TooLong, Unfinished}, specs.declared.place.BlockState.BlockState, specs.declared.place.BlockState.TheVariants.Outside, specs.declared.raw.RawBatch.RawBatch, specs.declared.raw.RawBlock.RawBlock, specs.declared.raw.RawFeed.RawFeed, specs.declared.raw.RawRow.RawRow, specs.Answers.{Reading, read_on}, specs.Entries.entry_of, specs.Places.{place_after, is_outside}, specs.Records.records_of}

-- What the records say, one after the other, after so many that were read and so many steps that were ended; or the first that is
-- refused. A feed that ends inside a step is refused at its last record.
abbrev pub steps_after : ℕ → Entry → ℕ
steps_after steps End = steps + 1
steps_after steps _ = steps

abbrev pub entries_in : Plan → BlockState → ℕ → ℕ → List (List (List ℕ)) → Reading (List Entry)
entries_in plan place steps read [] = if is_outside place then Ok [] else Err (read, Unfinished)
entries_in plan place steps read (fields ∷ others) =
    read_on (read + 1) (entry_of plan place steps fields)
    (λ entry. entries_in plan (place_after place entry) (steps_after steps entry) (read + 1) others)

-- a record that belongs to the block before it
abbrev pub is_of_block : Entry → Bool
is_of_block (Block table) = false
is_of_block (Removed range) = true
is_of_block (Shift range) = true
is_of_block (Added row) = true
is_of_block (Modified row) = true
is_of_block End = false

abbrev pub removed_range : Entry → Option KeyRange
removed_range (Removed range) = Some range
removed_range _ = None

abbrev pub shift_range : Entry → Option ShiftRange
shift_range (Shift range) = Some range
shift_range _ = None

abbrev pub added_row : Entry → Option RawRow
added_row (Added row) = Some row
added_row _ = None

abbrev pub modified_row : Entry → Option RawRow
modified_row (Modified row) = Some row
modified_row _ = None

-- a block has the records that follow its own, up to the next block or the end of the step
abbrev pub block_with : ℕ → ℕ → List Entry → RawBlock
block_with table number own = record {
  table = table;
  number = number;
  removed = filter_map removed_range own;
  shifts = filter_map shift_range own;
  added = filter_map added_row own;
  modified = filter_map modified_row own;
}

-- the blocks of a step: those before the next end of a step. The first of the records has this number
abbrev pub blocks_from : ℕ → List Entry → List RawBlock
blocks_from number [] = []
blocks_from number (Block table ∷ entries) = block_with table number (take_while is_of_block entries) ∷ blocks_from (number + 1) entries
blocks_from number (End ∷ entries) = []
blocks_from number (_ ∷ entries) = blocks_from (number + 1) entries

-- a step begins with the first record and after each end of a step, where records follow
abbrev pub batches_on : ℕ → List Entry → List RawBatch → List RawBatch
batches_on number [] later = []
batches_on number (entry ∷ entries) later = record { blocks = blocks_from number (entry ∷ entries) } ∷ later

abbrev pub batches_after : ℕ → List Entry → List RawBatch
batches_after number [] = []
batches_after number (End ∷ entries) = batches_on (number + 1) entries (batches_after (number + 1) entries)
batches_after number (_ ∷ entries) = batches_after (number + 1) entries

abbrev pub batches_of : List Entry → List RawBatch
batches_of entries = batches_on 1 entries (batches_after 1 entries)

abbrev pub feed_with : Reading (List Entry) → Reading RawFeed
feed_with (Ok entries) = Ok (record { batches = batches_of entries })
feed_with (Err refused) = Err refused

abbrev pub feed_in : Plan → List (List (List ℕ)) → Reading RawFeed
feed_in plan records = feed_with (entries_in plan Outside 0 0 records)

-- a feed has at most 67,108,864 bytes
abbrev pub feed_of : Plan → List ℕ → Reading RawFeed
feed_of plan bytes = if nat_lt 67108864 (length bytes) then Err (0, TooLong) else feed_in plan (records_of bytes)
