-- What the records of a feed tell, and the rows that are read of them.
use Rattle.std.proofs.Common.{◌≡◌, ℕ, Bool, true, false, cond, ltb, eqb, List, [], ◌++◌, length, Option, Some, None, Result, Ok, Err, ℤ, refl, sym, ap, ◌∙◌, subst}
use Rattle.std.{specs.Prelude.{flat_map, IfOk}, specs.List.{AllByRecursion, zip}, proofs.lemmas.Bool.cond_both, proofs.lemmas.List.length-map, proofs.lemmas.Option.same_Some}
use Rattle.tick_model.{specs.declared.plan.ColumnSpec.ColumnSpec, specs.declared.plan.Kind.Kind, specs.declared.plan.Plan.Plan, specs.declared.update.KeyRange.KeyRange, specs.declared.update.ShiftRange.ShiftRange, specs.Plans.columns_at}
use Rattle.feed_reader.{specs.declared.cells.ReadCells.ReadCells, specs.declared.entries.FeedEntry.FeedEntry as Read, specs.declared.fault.TextKind.TextKind, specs.declared.fault.TextKind.TheVariants.{FieldCount, OutOfOrder, TooLong}, specs.declared.place.BlockPart.BlockPart, specs.declared.place.BlockState.BlockState, specs.declared.place.BlockState.TheVariants.{Outside, Inside}, specs.declared.raw.RawCell.RawCell, specs.declared.raw.RawRow.RawRow, specs.Cells.{key_of, delta_of, kinds_in}, specs.Entries.{known_block, block_entry, source_named, end_entry, removed_past, removed_entry, row_with, shift_by, shift_past, shift_entry, key_range}, specs.Places.{opened, part_rank}, specs.Raw.{cell_texts, raw_cells, Grows, IsNumber}, specs.ReadCells.{AreRead, Reads}, specs.Records.field_of, specs.Said.{Entry, Block, Removed, Shift, Added, Modified, End, raw_row_at, told_entry, kinds_within, IsReadEntry, IsReadRow}}
use Rattle.feed_reader.specs.declared.entries.FeedEntry.TheVariants as reads

-- a record without a row
abbrev pub TellsNoRow : Result Entry TextKind → Type 0
TellsNoRow (Ok (Block table)) = Unit {0}
TellsNoRow (Ok (Removed range)) = Unit {0}
TellsNoRow (Ok (Shift range)) = Unit {0}
TellsNoRow (Ok (Added row)) = ⊥
TellsNoRow (Ok (Modified row)) = ⊥
TellsNoRow (Ok End) = Unit {0}
TellsNoRow (Err kind) = Unit {0}

known_no_row : (table : Option ℕ) → TellsNoRow (known_block table)
known_no_row None = tt
known_no_row (Some table) = tt

pub block_no_row : (plan : Plan) (fields : List (List ℕ)) → TellsNoRow (block_entry plan fields)
block_no_row plan fields =
    cond_both (eqb (length fields) 2) (known_block (source_named plan.nodes (field_of fields 1))) (Err FieldCount) TellsNoRow (λ _. known_no_row (source_named plan.nodes (field_of fields 1))) (λ _. tt)

pub end_no_row : (steps : ℕ) (fields : List (List ℕ)) → TellsNoRow (end_entry steps fields)
end_no_row steps fields =
    cond_both (eqb (length fields) 1) (cond (ltb steps 100000) (Ok End) (Err TooLong)) (Err FieldCount) TellsNoRow (λ _. cond_both (ltb steps 100000) (Ok End) (Err TooLong) TellsNoRow (λ _. tt) (λ _. tt)) (λ _. tt)

removed_past_no_row : (last : Option ℕ) (range : Option KeyRange) → TellsNoRow (removed_past last range)
removed_past_no_row last None = tt
removed_past_no_row last (Some range) = cond_both _ (Ok (Removed range)) (Err OutOfOrder) TellsNoRow (λ _. tt) (λ _. tt)

pub removed_no_row : (last : Option ℕ) (fields : List (List ℕ)) → TellsNoRow (removed_entry last fields)
removed_no_row last fields =
    let range = key_range (key_of (field_of fields 1)) (key_of (field_of fields 2)) in
    cond_both (eqb (length fields) 3) (removed_past last range) (Err FieldCount) TellsNoRow (λ _. removed_past_no_row last range) (λ _. tt)

shift_past_no_row : (last : Option ℕ) (range : Option ShiftRange) → TellsNoRow (shift_past last range)
shift_past_no_row last None = tt
shift_past_no_row last (Some range) = cond_both _ (Ok (Shift range)) (Err OutOfOrder) TellsNoRow (λ _. tt) (λ _. tt)

pub shift_no_row : (last : Option ℕ) (fields : List (List ℕ)) → TellsNoRow (shift_entry last fields)
shift_no_row last fields =
    let range = shift_by (key_range (key_of (field_of fields 1)) (key_of (field_of fields 2))) (delta_of (field_of fields 3)) in
    cond_both (eqb (length fields) 4) (shift_past last range) (Err FieldCount) TellsNoRow (λ _. shift_past_no_row last range) (λ _. tt)

pub read_nothing : (kinds : List Kind) (read : ReadCells) (known : List (List ℕ)) (told : Result Read TextKind) → read.texts ≡ known → TellsNoRow (told_entry read.texts kinds read.cells.items told) → IfOk told (IsReadEntry known kinds read)
read_nothing kinds read known (Ok (reads.Block table)) same none = same
read_nothing kinds read known (Ok (reads.Removed range)) same none = same
read_nothing kinds read known (Ok (reads.Shift range)) same none = same
read_nothing kinds read known (Ok (reads.Added key)) same none = absurd none
read_nothing kinds read known (Ok (reads.Modified key)) same none = absurd none
read_nothing kinds read known (Ok reads.End) same none = same
read_nothing kinds read known (Err kind) same none = tt
