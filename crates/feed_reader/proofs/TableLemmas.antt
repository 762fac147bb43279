-- The loop over the rows of a table file.
use Rattle.std.proofs.Common.{◌≡◌, ℕ, ◌+◌, ◌*◌, ◌<◌, ◌≤◌, ℤ, List, [], ◌∷◌, ◌++◌, true, Option, Some, None, Result, Ok, Err, map, refl, sym, ap, ap₂, ◌∙◌, subst, length, eqb, ltb, append_assoc, arith}
use Rattle.std.{specs.Prelude.flat_map, specs.List.range_with_len, proofs.lemmas.Bool.{cond_both, cond-true, ltb-true, lt-ltb}, proofs.lemmas.List.{length-map, length_push, map-id}, proofs.lemmas.List.FromFn.map-range_with_len_more}
use Rattle.tick_model.{specs.declared.plan.ColumnSpec.ColumnSpec, specs.declared.plan.Kind.Kind, specs.declared.table.PlainRow.PlainRow, specs.Changes.rows_under, proofs.RowLists.{length-rows_under, row_behind, whole_behind}}
use Rattle.feed_reader.{specs.declared.fault.TextKind.TextKind, specs.declared.fault.TextKind.TheVariants.{FieldCount, NotUtf8, TooLong}, specs.declared.raw.RawCell.RawCell, specs.declared.raw.RawRow.RawRow, specs.declared.raw.RawTable.RawTable, specs.declared.tables.ReadRows.ReadRows, specs.Answers.{Reading, onto, read_on}, specs.Cells.{cells_of, kinds_in}, specs.Raw.{cell_texts, raw_cells, raw_row, AreNumbered, AreTold, Grows}, specs.ReadCells.{AreRead, Reads}, specs.ReadRows.{plain_rows, raw_rows, AreReadRows, IsTaken}, specs.Records.are_texts, specs.Tables.{row_under, whole_row, row_of, rows_from, table_with}, proofs.RawLemmas.{told_push, numbered_push}}

range_more : (n : ℕ) → range_with_len 0 (n + 1) ≡ range_with_len 0 n ++ n ∷ []
range_more n =
    sym (map-id (range_with_len 0 (n + 1))) ∙ map-range_with_len_more (λ (k : ℕ). k) 0 n n (omega arith) ∙ ap (λ (ks : List ℕ). ks ++ n ∷ []) (map-id (range_with_len 0 n))

-- these rows, and then those that are read later
abbrev pub rows_onto : List RawRow → Reading (List RawRow) → Reading RawTable
rows_onto front (Ok rows) = Ok (record { rows = front ++ rows })
rows_onto front (Err refused) = Err refused

onto_rows : (front : List RawRow) (row : RawRow) (told : Reading (List RawRow)) → rows_onto front (onto row told) ≡ rows_onto (front ++ row ∷ []) told
onto_rows front row (Ok rows) = ap (λ all. let table : RawTable = record { rows = all } in Ok table) (sym (append_assoc front (row ∷ []) rows))
onto_rows front row (Err refused) = refl

pub row_more : (columns : List ColumnSpec) (front : List RawRow) (key : ℕ) (fields : List (List ℕ)) (others : List (List (List ℕ))) (row : RawRow) → row_of columns key fields ≡ Ok row → rows_onto front (rows_from columns key (fields ∷ others)) ≡ rows_onto (front ++ row ∷ []) (rows_from columns (key + 1) others)
row_more columns front key fields others row e =
    ap (λ told. rows_onto front (read_on (key + 2) told (λ next. rows_from columns (key + 1) others))) e ∙ onto_rows front row (rows_from columns (key + 1) others)

-- a row that is read is one of those that a table may have
Low : ℕ → Result RawRow TextKind → Type 0
Low key (Ok row) = key < 4194304
Low key (Err kind) = Unit {0}

under_low : (key : ℕ) (cells : Option (List RawCell)) → Low key (row_under key cells)
unfolding Low
under_low key None = tt
under_low key (Some cells) = cond_both (ltb key 4194304) (Ok (record { key = key; cells = cells })) (Err TooLong) (Low key) (λ e. ltb-true key 4194304 e) (λ _. tt)

row_low : (columns : List ColumnSpec) (key : ℕ) (fields : List (List ℕ)) → Low key (row_of columns key fields)
unfolding Low
row_low columns key fields =
    cond_both (are_texts fields) (whole_row columns key fields) (Err NotUtf8) (Low key)
    (λ _. cond_both (eqb (length fields) (length columns)) (row_under key (cells_of columns fields)) (Err FieldCount) (Low key) (λ _. under_low key (cells_of columns fields)) (λ _. tt)) (λ _. tt)

pub low_row : (columns : List ColumnSpec) (key : ℕ) (fields : List (List ℕ)) (row : RawRow) → row_of columns key fields ≡ Ok row → key < 4194304
unfolding Low
low_row columns key fields row e = subst (Low key) e (row_low columns key fields)

-- what a record of text spells that has a field for each column
whole_spells : (columns : List ColumnSpec) (key : ℕ) (fields : List (List ℕ)) → are_texts fields ≡ true → eqb (length fields) (length columns) ≡ true → row_of columns key fields ≡ row_under key (cells_of columns fields)
whole_spells columns key fields text same =
    cond-true (are_texts fields) (whole_row columns key fields) (Err NotUtf8) text
    ∙ cond-true (eqb (length fields) (length columns)) (row_under key (cells_of columns fields)) (Err FieldCount) same

-- one more row behind those that are read
module _ (columns : List ColumnSpec) (old new : ReadRows) (are : AreReadRows columns old) (put : new.keys.items ≡ old.keys.items ++ length old.keys.items ∷ []) where
  abbrev key : ℕ
  key = length old.keys.items

  abbrev row_with : List ℤ → PlainRow
  row_with own = record { key = key; cells = own }

  module _ (cells : List RawCell) (own : List ℤ) (reads : Reads columns old.read new.read cells own) where
    plain : plain_rows columns new ≡ plain_rows columns old ++ row_with own ∷ []
    plain =
        ap₂ (λ (ks : List ℕ) (all : List ℤ). rows_under (length columns) ks all) put reads.behind ∙ row_behind (length columns) old.keys.items old.read.cells.items own key are.whole reads.whole

    grows : Grows old.read.texts new.read.texts (flat_map cell_texts (raw_cells new.read.texts (kinds_in columns) own))
    grows = subst (λ (all : List RawCell). Grows old.read.texts new.read.texts (flat_map cell_texts all)) (sym reads.cells_are) reads.grows

    raw_push : raw_rows columns new ≡ raw_rows columns old ++ (record { key = key; cells = cells }) ∷ []
    raw_push =
        ap (map (raw_row new.read.texts (kinds_in columns))) plain
        ∙ told_push (kinds_in columns) old.read.texts new.read.texts (plain_rows columns old) (row_with own) are.numbered grows
        ∙ ap (λ (all : List RawCell). let row : RawRow = record { key = key; cells = all } in raw_rows columns old ++ row ∷ []) reads.cells_are

    rows_read : AreReadRows columns new
    rows_read = record {
      keys_are =
          put ∙ ap (λ (ks : List ℕ). ks ++ key ∷ []) are.keys_are ∙ sym (range_more key) ∙ ap (range_with_len 0) (sym (ap length put ∙ length_push old.keys.items key));
      whole = ap length reads.behind ∙ whole_behind (length columns) old.keys.items old.read.cells.items own key are.whole reads.whole ∙ ap (λ (ks : List ℕ). length columns * length ks) (sym put);
      numbered =
          subst (AreNumbered (kinds_in columns) new.read.texts) (sym plain)
          (numbered_push (kinds_in columns) old.read.texts new.read.texts (plain_rows columns old) (row_with own) are.numbered grows
          (record { whole = reads.whole ∙ sym (length-map columns (λ (column : ColumnSpec). column.kind)); numbers = reads.numbers }));
    }

  taken_as : (cells : Option (List RawCell)) → AreRead columns old.read new.read true cells → key < 4194304 → AreReadRows columns new × IsTaken (Ok tt) (raw_rows columns old) (raw_rows columns new) (row_under key cells)
  taken_as None is few = cc is
  taken_as (Some cells) is few =
      let row : RawRow = record { key = key; cells = cells } in (
        rows_read cells is.1.0 is.1.1,
        subst (IsTaken (Ok tt) (raw_rows columns old) (raw_rows columns new)) (sym (cond-true (ltb key 4194304) (Ok row) (Err TooLong) (lt-ltb key 4194304 few))) (raw_push cells is.1.0 is.1.1),
      )

  pub taken : (fields : List (List ℕ)) → are_texts fields ≡ true → eqb (length fields) (length columns) ≡ true → AreRead columns old.read new.read true (cells_of columns fields) → key < 4194304
      → AreReadRows columns new × IsTaken (Ok tt) (raw_rows columns old) (raw_rows columns new) (row_of columns key fields)
  taken fields text same is few =
      subst (λ (told : Result RawRow TextKind). AreReadRows columns new × IsTaken (Ok tt) (raw_rows columns old) (raw_rows columns new) told) (sym (whole_spells columns key fields text same)) (taken_as (cells_of columns fields) is few)

-- the next record
rows_len : (columns : List ColumnSpec) (read : ReadRows) → length (raw_rows columns read) ≡ length read.keys.items
rows_len columns read =
    length-map (plain_rows columns read) (raw_row read.read.texts (kinds_in columns)) ∙ length-rows_under (length columns) read.keys.items read.read.cells.items

taken_row : (done : Unit {0}) (before after : List RawRow) (told : Result RawRow TextKind) → IsTaken (Ok done) before after told → (row : RawRow) × (told ≡ Ok row) × (after ≡ before ++ row ∷ [])
taken_row done before after (Ok row) is = (row, refl, is)
taken_row done before after (Err kind) is = absurd is

module _ (columns : List ColumnSpec) (old new : ReadRows) (fields : List (List ℕ)) (others : List (List (List ℕ))) where
  abbrev next : Result RawRow TextKind
  next = row_of columns (length old.keys.items) fields

  pub row_taken : (done : Unit {0}) → IsTaken (Ok done) (raw_rows columns old) (raw_rows columns new) next
      → (rows_onto (raw_rows columns old) (rows_from columns (length old.keys.items) (fields ∷ others)) ≡ rows_onto (raw_rows columns new) (rows_from columns (length new.keys.items) others)) × (length new.keys.items ≤ 4194304)
  row_taken done is =
      let found = taken_row done (raw_rows columns old) (raw_rows columns new) next is in
      let longer : length new.keys.items ≡ length old.keys.items + 1 =
      sym (rows_len columns new) ∙ ap length found.2 ∙ length_push (raw_rows columns old) found.0 ∙ ap (λ (n : ℕ). n + 1) (rows_len columns old) in (
        row_more columns (raw_rows columns old) (length old.keys.items) fields others found.0 found.1
            ∙ ap₂ (λ (rows : List RawRow) (key : ℕ). rows_onto rows (rows_from columns key others)) (sym found.2) (sym longer),
        omega (arith, longer, low_row columns (length old.keys.items) fields found.0 found.1),
      )

-- before the first record
module _ (columns : List ColumnSpec) (read : ReadRows) (keys : read.keys.items ≡ []) where
  no_rows : plain_rows columns read ≡ []
  no_rows = ap (λ (ks : List ℕ). rows_under (length columns) ks read.read.cells.items) keys

  pub none_read : read.read.texts ≡ [] → read.read.cells.items ≡ [] → AreReadRows columns read
  none_read texts cells = record {
    keys_are = keys ∙ sym (ap (λ (ks : List ℕ). range_with_len 0 (length ks)) keys);
    whole = ap length cells ∙ sym (ap (λ (ks : List ℕ). length columns * length ks) keys ∙ (let none : length columns * 0 ≡ 0 = omega arith in none));
    numbered =
        subst (AreNumbered (kinds_in columns) read.read.texts) (sym no_rows)
        (record { rows_are = tt; told = subst (λ (all : List (List ℕ)). AreTold all []) (sym texts) tt });
  }

  onto_none : (told : Reading (List RawRow)) → table_with told ≡ rows_onto [] told
  onto_none (Ok rows) = refl
  onto_none (Err refused) = refl

  pub from_none : (left : List (List (List ℕ))) → table_with (rows_from columns 0 left) ≡ rows_onto (raw_rows columns read) (rows_from columns (length read.keys.items) left)
  from_none left =
      onto_none (rows_from columns 0 left)
      ∙ ap₂ (λ (rows : List RawRow) (key : ℕ). rows_onto rows (rows_from columns key left)) (sym (ap (map (raw_row read.read.texts (kinds_in columns))) no_rows)) (sym (ap length keys))

pub few_rows : (texts : List (List ℕ)) (kinds : List Kind) (width most : ℕ) (keys : List ℕ) (cells : List ℤ) (rows : List PlainRow) → rows ≡ rows_under width keys cells → length keys ≤ most → length (map (raw_row texts kinds) rows) ≤ most
few_rows texts kinds width most keys cells rows is few = omega (arith, length-map rows (raw_row texts kinds), ap length is, length-rows_under width keys cells)
