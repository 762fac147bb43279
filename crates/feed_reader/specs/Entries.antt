-- The records of a feed.
--     entry_of plan place steps fields      what a record says, or the first kind that refuses it, after so many ended steps
use Rattle.std.specs.Prelude.{ℕ, ◌+◌, ◌==◌, ◌&&◌, Bool, List, Option, Some, None, Result, Ok, Err, ℤ, drop, length, position, codes, nat_lt, nat_le, if◌then◌else◌}
use Rattle.tick_model.{specs.declared.plan.ColumnSpec.ColumnSpec, specs.declared.plan.Node.Node, specs.declared.plan.Plan.Plan, specs.declared.update.KeyRange.KeyRange, specs.declared.update.ShiftRange.ShiftRange, specs.Evaluation.is_source, specs.Names.same_name, specs.Plans.columns_at}
use Rattle.feed_reader.{specs.Said.{Entry, Block, Removed, Shift, Added, Modified, End}, specs.declared.fault.TextKind.TextKind, specs.declared.fault.TextKind.TheVariants.{BadTag, FieldCount, BadNumber, UnknownTable, OutOfOrder, NotUtf8, TooLong}, specs.declared.place.BlockPart.BlockPart, specs.declared.place.BlockState.BlockState, specs.declared.place.Tag.Tag, specs.declared.raw.RawCell.RawCell, specs.declared.raw.RawRow.RawRow, specs.Cells.{key_of, delta_of, cells_of}, specs.Places.{Opened, opened, is_past}, specs.Records.{field_of, are_texts}}
use Rattle.feed_reader.specs.declared.place.BlockPart.TheVariants as Parts
use Rattle.feed_reader.specs.declared.place.Tag.TheVariants as Tags

-- the first field is the tag
abbrev pub tag_of : List ℕ → Option Tag
tag_of text =
    if same_name text (codes "t") then Some Tags.Block
    else (if same_name text (codes "r") then Some (Tags.Of Parts.Removed)
    else (if same_name text (codes "s") then Some (Tags.Of Parts.Shifts)
    else (if same_name text (codes "a") then Some (Tags.Of Parts.Added)
    else (if same_name text (codes "m") then Some (Tags.Of Parts.Modified)
    else (if same_name text (codes ".") then Some Tags.End
    else None)))))

-- t,NAME: the node number of the source of that name
abbrev pub is_named : List ℕ → Node → Bool
is_named name node = is_source node && same_name name node.name

abbrev pub source_named : List Node → List ℕ → Option ℕ
source_named nodes name = position (is_named name) nodes

abbrev pub known_block : Option ℕ → Result Entry TextKind
known_block None = Err UnknownTable
known_block (Some table) = Ok (Block table)

abbrev pub block_entry : Plan → List (List ℕ) → Result Entry TextKind
block_entry plan fields = if length fields == 2 then known_block (source_named plan.nodes (field_of fields 1)) else Err FieldCount

-- a dot ends a step, of at most 100,000
abbrev pub end_entry : ℕ → List (List ℕ) → Result Entry TextKind
end_entry steps fields =
    if length fields == 1 then (if nat_lt steps 100000 then Ok End else Err TooLong)
    else Err FieldCount

-- r,FIRST,LAST
abbrev pub key_range : Option ℕ → Option ℕ → Option KeyRange
key_range None last = None
key_range (Some first) None = None
key_range (Some first) (Some last) = if nat_le first last then Some (record { first = first; last = last }) else None

abbrev pub removed_past : Option ℕ → Option KeyRange → Result Entry TextKind
removed_past last None = Err BadNumber
removed_past last (Some range) = if is_past last range.first then Ok (Removed range) else Err OutOfOrder

abbrev pub removed_entry : Option ℕ → List (List ℕ) → Result Entry TextKind
removed_entry last fields =
    if length fields == 3 then removed_past last (key_range (key_of (field_of fields 1)) (key_of (field_of fields 2)))
    else Err FieldCount

-- s,BEGIN,END,DELTA
abbrev pub shift_by : Option KeyRange → Option ℤ → Option ShiftRange
shift_by None delta = None
shift_by (Some range) None = None
shift_by (Some range) (Some delta) = Some (record { begin = range.first; end = range.last; delta = delta })

abbrev pub shift_past : Option ℕ → Option ShiftRange → Result Entry TextKind
shift_past last None = Err BadNumber
shift_past last (Some range) = if is_past last range.begin then Ok (Shift range) else Err OutOfOrder

abbrev pub shift_entry : Option ℕ → List (List ℕ) → Result Entry TextKind
shift_entry last fields =
    if length fields == 4
    then shift_past last (shift_by (key_range (key_of (field_of fields 1)) (key_of (field_of fields 2))) (delta_of (field_of fields 3)))
    else Err FieldCount

-- a,KEY,CELLS and m,KEY,CELLS
abbrev pub row_with : Option ℕ → Option (List RawCell) → Option RawRow
row_with None cells = None
row_with (Some key) None = None
row_with (Some key) (Some cells) = Some (record { key = key; cells = cells })

abbrev pub row_past : Option ℕ → Option RawRow → Result RawRow TextKind
row_past last None = Err BadNumber
row_past last (Some row) = if is_past last row.key then Ok row else Err OutOfOrder

abbrev pub row_entry : List ColumnSpec → Option ℕ → List (List ℕ) → Result RawRow TextKind
row_entry columns last fields =
    if length fields == length columns + 2 then row_past last (row_with (key_of (field_of fields 1)) (cells_of columns (drop 2 fields)))
    else Err FieldCount

abbrev pub added : Result RawRow TextKind → Result Entry TextKind
added (Ok row) = Ok (Added row)
added (Err kind) = Err kind

abbrev pub modified : Result RawRow TextKind → Result Entry TextKind
modified (Ok row) = Ok (Modified row)
modified (Err kind) = Err kind

abbrev pub part_entry : Plan → Option Opened → BlockPart → List (List ℕ) → Result Entry TextKind
part_entry plan None part fields = Err OutOfOrder
part_entry plan (Some (table, last)) Parts.Removed fields = removed_entry last fields
part_entry plan (Some (table, last)) Parts.Shifts fields = shift_entry last fields
part_entry plan (Some (table, last)) Parts.Added fields = added (row_entry (columns_at plan.nodes table) last fields)
part_entry plan (Some (table, last)) Parts.Modified fields = modified (row_entry (columns_at plan.nodes table) last fields)

abbrev pub tagged_entry : Plan → BlockState → ℕ → Option Tag → List (List ℕ) → Result Entry TextKind
tagged_entry plan place steps None fields = Err BadTag
tagged_entry plan place steps (Some Tags.Block) fields = block_entry plan fields
tagged_entry plan place steps (Some (Tags.Of part)) fields = part_entry plan (opened place part) part fields
tagged_entry plan place steps (Some Tags.End) fields = end_entry steps fields

abbrev pub entry_of : Plan → BlockState → ℕ → List (List ℕ) → Result Entry TextKind
entry_of plan place steps fields = if are_texts fields then tagged_entry plan place steps (tag_of (field_of fields 0)) fields else Err NotUtf8
