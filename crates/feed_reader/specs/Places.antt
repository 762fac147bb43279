-- Where the reading of a feed is.
--     place_after place entry      where it is after a record
use Rattle.std.specs.Prelude.{ℕ, ◌==◌, Bool, true, false, Option, Some, None, nat_lt, if◌then◌else◌}
use Rattle.feed_reader.{specs.Said.{Entry, Block, Removed, Shift, Added, Modified, End}, specs.declared.place.BlockPart.BlockPart, specs.declared.place.BlockState.BlockState, specs.declared.place.BlockState.TheVariants.{Outside, Inside}}
use Rattle.feed_reader.specs.declared.place.BlockPart.TheVariants as Parts

-- the parts of a block, in their order
abbrev pub part_rank : BlockPart → ℕ
part_rank Parts.Removed = 0
part_rank Parts.Shifts = 1
part_rank Parts.Added = 2
part_rank Parts.Modified = 3

-- where a record of a part may stand: in which source's block, and after which key of the same part
abbrev pub Opened : Type 0
Opened = ℕ × Option ℕ

abbrev pub opened : BlockState → BlockPart → Option Opened
opened Outside next = None
opened (Inside table at last) next =
    if nat_lt (part_rank next) (part_rank at) then None
    else Some (table, (if part_rank next == part_rank at then last else None))

-- a record of a part stands last, and this is its last key
abbrev pub passed : BlockState → BlockPart → ℕ → BlockState
passed Outside next last = Outside
passed (Inside table at before) next last = Inside table next (Some last)

abbrev pub place_after : BlockState → Entry → BlockState
place_after place (Block table) = Inside table Parts.Removed None
place_after place (Removed range) = passed place Parts.Removed range.last
place_after place (Shift range) = passed place Parts.Shifts range.end
place_after place (Added row) = passed place Parts.Added row.key
place_after place (Modified row) = passed place Parts.Modified row.key
place_after place End = Outside

abbrev pub is_outside : BlockState → Bool
is_outside Outside = true
is_outside (Inside table at last) = false

-- a key ascends past the one before it
abbrev pub is_past : Option ℕ → ℕ → Bool
is_past None key = true
is_past (Some before) key = nat_lt before key
