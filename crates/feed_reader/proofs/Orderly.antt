-- What the records of a feed say, one after the other: each stands where it may, and what it says is in its range.
use Rattle.std.proofs.Common.{◌≡◌, ℕ, zero, suc, ◌+◌, ◌^◌, ◌<◌, ◌≤◌, Bool, true, false, cond, eqb, ltb, leb, List, [], ◌∷◌, length, drop, Option, Some, None, Result, Ok, Err, ℤ, pos, negsuc, neg_ℤ, refl, sym, ap, subst, arith, length-drop}
use Rattle.std.{specs.Prelude.{◌&&◌, not, FitsSigned, IfSome, IfOk, option_map, unsigned_abs}, specs.List.position_or_len, specs.Int.w64, specs.Ordering.int_eq, specs.Str.all_ascii_digits, specs.Str.Parse.digits_value, proofs.lemmas.Bool.{cond_both, and_parts, ltb-true, leb-true, eqb-true, eqb-false, false_from_ne_true}, proofs.lemmas.Bool.Decides.Decides-int_eq, proofs.lemmas.Int.{fits_signed_from_abs, ints}, proofs.lemmas.Result.IfOk-at_ok, proofs.Math.Numerals.one-add}
use Rattle.tick_model.{specs.declared.plan.ColumnSpec.ColumnSpec, specs.declared.plan.Kind.Kind, specs.declared.plan.Kind.TheVariants.{Long as LongKind, Text as TextKind}, specs.declared.plan.Node.Node, specs.declared.plan.Plan.Plan, specs.declared.update.KeyRange.KeyRange, specs.declared.update.ShiftRange.ShiftRange, specs.Changes.is_none, specs.Evaluation.is_source, specs.Names.same_name, specs.LawfulRuns.is_source_number, specs.Plans.columns_at, specs.Printable.IsShiftRange}
use Rattle.feed_reader.{specs.Said.{Entry, Block, Removed, Shift, Added, Modified, End}, specs.declared.fault.TextKind.TextKind as TextKinds, specs.declared.place.BlockPart.BlockPart, specs.declared.place.BlockState.BlockState, specs.declared.place.BlockState.TheVariants.{Outside, Inside}, specs.declared.place.Tag.Tag, specs.declared.raw.RawCell.RawCell, specs.declared.raw.RawCell.TheVariants.{Null, Long, Text}, specs.declared.raw.RawRow.RawRow, specs.Cells.{number_below, signed_below, long_of, key_of, delta_of, not_zero, some_not_zero, known_cell, cell_of, with_first, cells_of}, specs.Entries.{entry_of, tagged_entry, is_named, source_named, known_block, tag_of, part_entry, key_range, removed_past, shift_by, shift_past, row_with, row_past, row_entry, added, modified}, specs.Answers.{Reading, onto, read_on}, specs.Feeds.{entries_in, steps_after}, specs.Places.{Opened, opened, is_past, is_outside, place_after}, specs.Records.{are_texts, field_of}}
use Rattle.feed_reader.specs.declared.fault.TextKind.TheVariants as kinds
use Rattle.feed_reader.specs.declared.place.BlockPart.TheVariants as Parts
use Rattle.feed_reader.specs.declared.place.Tag.TheVariants as Tags

-- a cell and the cells of a row, of a source's columns
abbrev pub CellFits : Kind → RawCell → Type 0
CellFits kind Null = Unit {0}
CellFits LongKind (Long n) = FitsSigned w64 n
CellFits LongKind (Text text) = ⊥
CellFits TextKind (Long n) = ⊥
CellFits TextKind (Text text) = is_none text ≡ false

abbrev pub CellsFit : List ColumnSpec → List RawCell → Type 0
CellsFit [] [] = Unit {0}
CellsFit [] (cell ∷ cells) = ⊥
CellsFit (column ∷ columns) [] = ⊥
CellsFit (column ∷ columns) (cell ∷ cells) = CellFits column.kind cell × CellsFit columns cells

pub record IsRawRow (columns : List ColumnSpec) (row : RawRow) : Type 0 where
  pub key : row.key < 2 ^ 40
  pub cells : CellsFit columns row.cells

-- ranges that are removed and moved
abbrev pub IsRange : KeyRange → Type 0
IsRange range = (range.first ≤ range.last) × (range.last < 2 ^ 40)

pub record IsMove (range : ShiftRange) : Type 0 where
  pub rises : range.begin ≤ range.end
  pub moves : int_eq range.delta (pos 0) ≡ false
  pub fits : IsShiftRange (2 ^ 40) range

-- a record of a part stands where its block is opened, after the last one of its part
abbrev pub StandsAt : Option Opened → ℕ → (ℕ → Type 0) → Type 0
StandsAt None key Fits = ⊥
StandsAt (Some (table, last)) key Fits = (is_past last key ≡ true) × Fits table

abbrev pub EntryFits : Plan → BlockState → ℕ → Entry → Type 0
EntryFits plan place steps (Block table) = is_source_number plan.nodes table ≡ true
EntryFits plan place steps (Removed range) = StandsAt (opened place Parts.Removed) range.first (λ table. IsRange range)
EntryFits plan place steps (Shift range) = StandsAt (opened place Parts.Shifts) range.begin (λ table. IsMove range)
EntryFits plan place steps (Added row) = StandsAt (opened place Parts.Added) row.key (λ table. IsRawRow (columns_at plan.nodes table) row)
EntryFits plan place steps (Modified row) = StandsAt (opened place Parts.Modified) row.key (λ table. IsRawRow (columns_at plan.nodes table) row)
EntryFits plan place steps End = steps < 100000

-- numbers
number_fits : (limit : ℕ) (text : List ℕ) → IfSome (number_below limit text) (λ n. n < limit)
number_fits limit text =
    cond_both (not (is_none text) && leb (length text) 19 && all_ascii_digits text && ltb (digits_value 10 text) limit) (Some (digits_value 10 text)) None (λ o. IfSome o (λ n. n < limit))
    (λ e. ltb-true (digits_value 10 text) limit (and_parts (not (is_none text) && leb (length text) 19 && all_ascii_digits text) (ltb (digits_value 10 text) limit) e).1) (λ _. tt)

-- of a size
abbrev pub IsWithin : ℕ → ℤ → Type 0
IsWithin limit x = unsigned_abs x < limit

negated_within : (limit n : ℕ) → n < limit → IsWithin limit (neg_ℤ (pos n))
negated_within limit zero low = low
negated_within limit (suc n) low = low

negated_fits : (limit : ℕ) (o : Option ℕ) → IfSome o (λ n. n < limit) → IfSome (option_map neg_ℤ (option_map pos o)) (IsWithin limit)
negated_fits limit None low = tt
negated_fits limit (Some n) low = negated_within limit n low

plain_fits : (limit : ℕ) (o : Option ℕ) → IfSome o (λ n. n < limit) → IfSome (option_map pos o) (IsWithin limit)
plain_fits limit None low = tt
plain_fits limit (Some n) low = low

pub signed_fits : (limit : ℕ) (text : List ℕ) → IfSome (signed_below limit text) (IsWithin limit)
signed_fits limit [] = tt
signed_fits limit (first ∷ others) =
    cond_both (eqb first 45) (option_map neg_ℤ (option_map pos (number_below limit others))) (option_map pos (number_below limit (first ∷ others))) (λ o. IfSome o (IsWithin limit))
    (λ _. negated_fits limit (number_below limit others) (number_fits limit others)) (λ _. plain_fits limit (number_below limit (first ∷ others)) (number_fits limit (first ∷ others)))

-- cells
long_fits : (o : Option ℤ) → IfSome o (IsWithin (2 ^ 63)) → IfSome (option_map Long o) (CellFits LongKind)
long_fits None within = tt
long_fits (Some n) within = fits_signed_from_abs w64 n within

known_fits : (kind : Kind) (field : List ℕ) → is_none field ≡ false → IfSome (known_cell kind field) (CellFits kind)
known_fits LongKind field some = long_fits (long_of field) (signed_fits (2 ^ 63) field)
known_fits TextKind field some = some

null_fits : (kind : Kind) → CellFits kind Null
null_fits LongKind = tt
null_fits TextKind = tt

cell_fits : (kind : Kind) (field : List ℕ) → IfSome (cell_of kind field) (CellFits kind)
cell_fits kind field = cond_both (is_none field) (Some Null) (known_cell kind field) (λ o. IfSome o (CellFits kind)) (λ _. null_fits kind) (λ some. known_fits kind field some)

first_fits : (column : ColumnSpec) (columns : List ColumnSpec) (cell : Option RawCell) (cells : Option (List RawCell)) → IfSome cell (CellFits column.kind) → IfSome cells (CellsFit columns) → IfSome (with_first cell cells) (CellsFit (column ∷ columns))
first_fits column columns None cells fits more = tt
first_fits column columns (Some cell) None fits more = tt
first_fits column columns (Some cell) (Some cells) fits more = (fits, more)

pub cells_fit : (columns : List ColumnSpec) (fields : List (List ℕ)) → length fields ≡ length columns → IfSome (cells_of columns fields) (CellsFit columns)
cells_fit [] [] whole = tt
cells_fit [] (field ∷ fields) whole = absurd (omega arith)
cells_fit (column ∷ columns) [] whole = absurd (omega arith)
cells_fit (column ∷ columns) (field ∷ fields) whole =
    first_fits column columns (cell_of column.kind field) (cells_of columns fields) (cell_fits column.kind field) (cells_fit columns fields (omega arith))

-- a block of a source
source_next : (name : List ℕ) (node : Node) (nodes : List Node) (n : ℕ) (b : Bool) → is_named name node ≡ b → (n < length nodes → is_source_number nodes n ≡ true) → cond (not b) (1 + n) 0 < length (node ∷ nodes) → is_source_number (node ∷ nodes) (cond (not b) (1 + n) 0) ≡ true
source_next name node nodes n true is more within = (and_parts (is_source node) (same_name name node.name) is).0
source_next name node nodes n false is more within = rw one-add (more (omega arith))

source_at : (name : List ℕ) (nodes : List Node) → position_or_len (is_named name) nodes < length nodes → is_source_number nodes (position_or_len (is_named name) nodes) ≡ true
source_at name [] within = absurd (omega arith)
source_at name (node ∷ nodes) within = source_next name node nodes (position_or_len (is_named name) nodes) (is_named name node) refl (source_at name nodes) within

block_fits : (plan : Plan) (place : BlockState) (steps : ℕ) (name : List ℕ) → IfOk (known_block (source_named plan.nodes name)) (EntryFits plan place steps)
block_fits plan place steps name =
    let n = position_or_len (is_named name) plan.nodes in
    cond_both (ltb n (length plan.nodes)) (Some n) None (λ o. IfOk (known_block o) (EntryFits plan place steps)) (λ e. source_at name plan.nodes (ltb-true n (length plan.nodes) e)) (λ _. tt)

-- ranges
range_fits : (first last : Option ℕ) → IfSome last (λ n. n < 2 ^ 40) → IfSome (key_range first last) IsRange
range_fits None last low = tt
range_fits (Some first) None low = tt
range_fits (Some first) (Some last) low = cond_both (leb first last) (Some (record { first = first; last = last })) None (λ o. IfSome o IsRange) (λ e. (leb-true first last e, low)) (λ _. tt)

removed_fits : (plan : Plan) (steps : ℕ) (place : BlockState) (table : ℕ) (last : Option ℕ) (range : Option KeyRange) → opened place Parts.Removed ≡ Some (table, last) → IfSome range IsRange → IfOk (removed_past last range) (EntryFits plan place steps)
removed_fits plan steps place table last None is fits = tt
removed_fits plan steps place table last (Some range) is fits =
    cond_both (is_past last range.first) (Ok (Removed range)) (Err kinds.OutOfOrder) (λ r. IfOk r (EntryFits plan place steps))
    (λ e. subst (λ at. StandsAt at range.first (λ _. IsRange range)) (sym is) (e, fits)) (λ _. tt)

-- moves
moved_fits : (range : KeyRange) (delta : ℤ) → IsRange range → int_eq delta (pos 0) ≡ false → IsWithin (2 ^ 40) delta → IsMove (record { begin = range.first; end = range.last; delta = delta })
moved_fits range (pos n) is some within = record {
  rises = is.0;
  moves = some;
  fits = record { begin = omega arith; end = is.1; up = omega (arith, ints); down = omega (arith, ints) };
}
moved_fits range (negsuc n) is some within = record {
  rises = is.0;
  moves = some;
  fits = record { begin = omega arith; end = is.1; up = omega (arith, ints); down = omega (arith, ints) };
}

not_zero-pos : (n : ℕ) → eqb n 0 ≡ false → int_eq (pos n) (pos 0) ≡ false
not_zero-pos n e = false_from_ne_true (int_eq (pos n) (pos 0)) (λ is. eqb-false n 0 e (ap unsigned_abs ((Decides-int_eq (pos n) (pos 0)).0 is)))

not_zero-neg : (n : ℕ) → int_eq (negsuc n) (pos 0) ≡ false
not_zero-neg n = refl

abbrev some_delta : ℤ → Type 0
some_delta delta = (int_eq delta (pos 0) ≡ false) × IsWithin (2 ^ 40) delta

not_zero_fits : (delta : ℤ) → IsWithin (2 ^ 40) delta → IfSome (not_zero delta) some_delta
not_zero_fits (pos n) within =
    cond_both (eqb n 0) None (Some (pos n)) (λ o. IfSome o some_delta) (λ _. tt) (λ e. (not_zero-pos n e, within))
not_zero_fits (negsuc n) within = (not_zero-neg n, within)

delta_fits : (o : Option ℤ) → IfSome o (IsWithin (2 ^ 40)) → IfSome (some_not_zero o) some_delta
delta_fits None within = tt
delta_fits (Some delta) within = not_zero_fits delta within

shift_by_fits : (range : Option KeyRange) (delta : Option ℤ) → IfSome range IsRange → IfSome delta some_delta → IfSome (shift_by range delta) IsMove
shift_by_fits None delta is some = tt
shift_by_fits (Some range) None is some = tt
shift_by_fits (Some range) (Some delta) is some = moved_fits range delta is some.0 some.1

shift_fits : (plan : Plan) (steps : ℕ) (place : BlockState) (table : ℕ) (last : Option ℕ) (range : Option ShiftRange) → opened place Parts.Shifts ≡ Some (table, last) → IfSome range IsMove → IfOk (shift_past last range) (EntryFits plan place steps)
shift_fits plan steps place table last None is fits = tt
shift_fits plan steps place table last (Some range) is fits =
    cond_both (is_past last range.begin) (Ok (Shift range)) (Err kinds.OutOfOrder) (λ r. IfOk r (EntryFits plan place steps))
    (λ e. subst (λ at. StandsAt at range.begin (λ _. IsMove range)) (sym is) (e, fits)) (λ _. tt)

-- rows
with_fits : (columns : List ColumnSpec) (key : Option ℕ) (cells : Option (List RawCell)) → IfSome key (λ n. n < 2 ^ 40) → IfSome cells (CellsFit columns) → IfSome (row_with key cells) (IsRawRow columns)
with_fits columns None cells low fits = tt
with_fits columns (Some key) None low fits = tt
with_fits columns (Some key) (Some cells) low fits = record { key = low; cells = fits }

past_fits : (columns : List ColumnSpec) (last : Option ℕ) (row : Option RawRow) → IfSome row (IsRawRow columns) → IfOk (row_past last row) (λ r. (is_past last r.key ≡ true) × IsRawRow columns r)
past_fits columns last None fits = tt
past_fits columns last (Some row) fits =
    cond_both (is_past last row.key) (Ok row) (Err kinds.OutOfOrder) (λ r. IfOk r (λ row. (is_past last row.key ≡ true) × IsRawRow columns row)) (λ e. (e, fits)) (λ _. tt)

row_fits : (columns : List ColumnSpec) (last : Option ℕ) (fields : List (List ℕ)) → IfOk (row_entry columns last fields) (λ r. (is_past last r.key ≡ true) × IsRawRow columns r)
row_fits columns last fields =
    let row = row_with (key_of (field_of fields 1)) (cells_of columns (drop 2 fields)) in
    cond_both (eqb (length fields) (length columns + 2)) (row_past last row) (Err kinds.FieldCount) (λ r. IfOk r (λ row. (is_past last row.key ≡ true) × IsRawRow columns row))
    (λ e. let count = eqb-true (length fields) (length columns + 2) e in
    past_fits columns last row (with_fits columns (key_of (field_of fields 1)) (cells_of columns (drop 2 fields)) (number_fits (2 ^ 40) (field_of fields 1)) (cells_fit columns (drop 2 fields) (omega (arith, length-drop 2 fields)))))
    (λ _. tt)

added_fits : (plan : Plan) (steps : ℕ) (place : BlockState) (table : ℕ) (last : Option ℕ) (row : Result RawRow TextKinds) → opened place Parts.Added ≡ Some (table, last) → IfOk row (λ r. (is_past last r.key ≡ true) × IsRawRow (columns_at plan.nodes table) r) → IfOk (added row) (EntryFits plan place steps)
added_fits plan steps place table last (Ok row) is fits = subst (λ at. StandsAt at row.key (λ t. IsRawRow (columns_at plan.nodes t) row)) (sym is) fits
added_fits plan steps place table last (Err kind) is fits = tt

modified_fits : (plan : Plan) (steps : ℕ) (place : BlockState) (table : ℕ) (last : Option ℕ) (row : Result RawRow TextKinds) → opened place Parts.Modified ≡ Some (table, last) → IfOk row (λ r. (is_past last r.key ≡ true) × IsRawRow (columns_at plan.nodes table) r) → IfOk (modified row) (EntryFits plan place steps)
modified_fits plan steps place table last (Ok row) is fits = subst (λ at. StandsAt at row.key (λ t. IsRawRow (columns_at plan.nodes t) row)) (sym is) fits
modified_fits plan steps place table last (Err kind) is fits = tt

part_fits : (plan : Plan) (place : BlockState) (steps : ℕ) (at : Option Opened) (part : BlockPart) (fields : List (List ℕ)) → opened place part ≡ at → IfOk (part_entry plan at part fields) (EntryFits plan place steps)
part_fits plan place steps None part fields is = tt
part_fits plan place steps (Some (table, last)) Parts.Removed fields is =
    let range = key_range (key_of (field_of fields 1)) (key_of (field_of fields 2)) in
    cond_both (eqb (length fields) 3) (removed_past last range) (Err kinds.FieldCount) (λ r. IfOk r (EntryFits plan place steps))
    (λ _. removed_fits plan steps place table last range is (range_fits (key_of (field_of fields 1)) (key_of (field_of fields 2)) (number_fits (2 ^ 40) (field_of fields 2)))) (λ _. tt)
part_fits plan place steps (Some (table, last)) Parts.Shifts fields is =
    let range = key_range (key_of (field_of fields 1)) (key_of (field_of fields 2)) in
    let move = shift_by range (delta_of (field_of fields 3)) in
    cond_both (eqb (length fields) 4) (shift_past last move) (Err kinds.FieldCount) (λ r. IfOk r (EntryFits plan place steps))
    (λ _. shift_fits plan steps place table last move is
    (shift_by_fits range (delta_of (field_of fields 3)) (range_fits (key_of (field_of fields 1)) (key_of (field_of fields 2)) (number_fits (2 ^ 40) (field_of fields 2)))
    (delta_fits (signed_below (2 ^ 40) (field_of fields 3)) (signed_fits (2 ^ 40) (field_of fields 3))))) (λ _. tt)
part_fits plan place steps (Some (table, last)) Parts.Added fields is = added_fits plan steps place table last (row_entry (columns_at plan.nodes table) last fields) is (row_fits (columns_at plan.nodes table) last fields)
part_fits plan place steps (Some (table, last)) Parts.Modified fields is = modified_fits plan steps place table last (row_entry (columns_at plan.nodes table) last fields) is (row_fits (columns_at plan.nodes table) last fields)

tagged_fits : (plan : Plan) (place : BlockState) (steps : ℕ) (tag : Option Tag) (fields : List (List ℕ)) → IfOk (tagged_entry plan place steps tag fields) (EntryFits plan place steps)
tagged_fits plan place steps None fields = tt
tagged_fits plan place steps (Some Tags.Block) fields =
    cond_both (eqb (length fields) 2) (known_block (source_named plan.nodes (field_of fields 1))) (Err kinds.FieldCount) (λ r. IfOk r (EntryFits plan place steps)) (λ _. block_fits plan place steps (field_of fields 1)) (λ _. tt)
tagged_fits plan place steps (Some (Tags.Of part)) fields = part_fits plan place steps (opened place part) part fields refl
tagged_fits plan place steps (Some Tags.End) fields =
    cond_both (eqb (length fields) 1) (cond (ltb steps 100000) (Ok End) (Err kinds.TooLong)) (Err kinds.FieldCount) (λ r. IfOk r (EntryFits plan place steps))
    (λ _. cond_both (ltb steps 100000) (Ok End) (Err kinds.TooLong) (λ r. IfOk r (EntryFits plan place steps)) (λ e. ltb-true steps 100000 e) (λ _. tt)) (λ _. tt)

pub entry_fits : (plan : Plan) (place : BlockState) (steps : ℕ) (fields : List (List ℕ)) → IfOk (entry_of plan place steps fields) (EntryFits plan place steps)
entry_fits plan place steps fields =
    cond_both (are_texts fields) (tagged_entry plan place steps (tag_of (field_of fields 0)) fields) (Err kinds.NotUtf8) (λ r. IfOk r (EntryFits plan place steps))
    (λ _. tagged_fits plan place steps (tag_of (field_of fields 0)) fields) (λ _. tt)

pub fits_at : (plan : Plan) (place : BlockState) (steps : ℕ) (fields : List (List ℕ)) (entry : Entry) → entry_of plan place steps fields ≡ Ok entry → EntryFits plan place steps entry
fits_at plan place steps fields entry told = IfOk-at_ok (EntryFits plan place steps) told (entry_fits plan place steps fields)

-- what is read first, and then
onto_ok : {X : Type 0} (entry : X) (told : Reading (List X)) (entries : List X) → onto entry told ≡ Ok entries → (rest : List X) × (told ≡ Ok rest) × (entry ∷ rest ≡ entries)
onto_ok entry (Ok rest) entries e = (rest, refl, cc)
onto_ok entry (Err refused) entries e = cc e

pub read_ok : {X : Type 0} (number : ℕ) (told : Result X TextKinds) (more : X → Reading (List X)) (entries : List X) → read_on number told more ≡ Ok entries → (entry : X) × (rest : List X) × (told ≡ Ok entry) × (more entry ≡ Ok rest) × (entry ∷ rest ≡ entries)
read_ok number (Ok entry) more entries e = let found = onto_ok entry (more entry) entries e in (entry, found.0, refl, found.1, found.2)
read_ok number (Err kind) more entries e = cc e

-- records that are all read stand each where it may, and the last one ends a step
abbrev pub Orderly : Plan → BlockState → ℕ → List Entry → Type 0
Orderly plan place steps [] = is_outside place ≡ true
Orderly plan place steps (entry ∷ entries) = EntryFits plan place steps entry × Orderly plan (place_after place entry) (steps_after steps entry) entries

orderly_end : (plan : Plan) (place : BlockState) (steps read : ℕ) (entries : List Entry) → cond {A = Reading (List Entry)} (is_outside place) (Ok []) (Err (read, kinds.Unfinished)) ≡ Ok entries → Orderly plan place steps entries × (length entries ≡ 0)
orderly_end plan Outside steps read [] e = (refl, refl)
orderly_end plan Outside steps read (entry ∷ entries) e = cc e
orderly_end plan (Inside table at last) steps read entries e = cc e

pub orderly : (plan : Plan) (place : BlockState) (steps read : ℕ) (records : List (List (List ℕ))) (entries : List Entry) → entries_in plan place steps read records ≡ Ok entries → Orderly plan place steps entries × (length entries ≡ length records)
orderly plan place steps read [] entries e = orderly_end plan place steps read entries e
orderly plan place steps read (fields ∷ others) entries e =
    let found = read_ok (read + 1) (entry_of plan place steps fields) (λ entry. entries_in plan (place_after place entry) (steps_after steps entry) (read + 1) others) entries e in
    let later = orderly plan (place_after place found.0) (steps_after steps found.0) (read + 1) others found.1 found.3 in
    let fits = fits_at plan place steps fields found.0 found.2 in
    subst (λ all. Orderly plan place steps all × (length all ≡ length (fields ∷ others))) found.4 ((fits, later.0), ap suc later.1)
