-- The records of an entry: the one that begins it, and those that belong to it.
use Rattle.std.proofs.Common.{◌≡◌, refl, ap, sym, ◌∙◌, true, false, true≢false, ℕ, List, [], ◌∷◌, ◌++◌, append_assoc, map, drop, length, ◌*◌, ◌<◌, ◌==◌, get_or, subst, eq-eqb}
use Rattle.std.{specs.Prelude.{codes, Result, Ok, Err}, specs.List.AllByRecursion, specs.Fmt.decimal, proofs.lemmas.List.{append-nil, get_or_default}}
use Rattle.key_lists.{specs.Keys.runs, proofs.Every.{every, every-map, every-append}, proofs.Parts.every_at}
use Rattle.tick_model.{specs.declared.plan.ColumnSpec.ColumnSpec, specs.Changes.{Change, rows_under}, specs.Texts.{columns_record, fields_text, record_text, records_text, removed_record, row_record, shift_record}}
use Rattle.update_text.{specs.declared.printed.PrintedFault.PrintedFault, specs.declared.shown.Shown.Shown, specs.OneToOne.{IsPrinted, change_text}, specs.Reading.Gives, specs.Told.parts_shown, proofs.Backwards.ended_is_none, proofs.ReadRows.none_from_test, proofs.ChangeRecords.first_and_parts, proofs.ChangesBack.text_same}
use Rattle.run_output.{specs.declared.entry.OutputEntry.OutputEntry, specs.declared.entry.OutputEntry.TheVariants.{Update, Snapshot, Done, Fault}, specs.Entries.{AreShown, IsEntry, IsShown, entry_records, entry_text, output_text, shown_at}, specs.Splitting.{IsPart, begins_part}}

abbrev pub tag_of : OutputEntry → List ℕ
tag_of (Update table step change) = codes "step"
tag_of (Snapshot table snapshot) = codes "snap"
tag_of (Done step) = codes "done"
tag_of (Fault fields) = codes "fault"

abbrev pub fields_of : List Shown → OutputEntry → List (List ℕ)
fields_of tables (Update table step change) = decimal step ∷ (shown_at tables table).name ∷ []
fields_of tables (Snapshot table snapshot) = decimal snapshot.caller ∷ decimal snapshot.call ∷ decimal snapshot.step ∷ (shown_at tables table).name ∷ []
fields_of tables (Done step) = decimal step ∷ []
fields_of tables (Fault fields) = fields

abbrev pub parts_of : List Shown → List (List ℕ) → OutputEntry → List (List (List ℕ))
parts_of tables texts (Update table step change) = parts_shown (shown_at tables table).columns texts change
parts_of tables texts (Snapshot table snapshot) = map (row_record (codes "w") texts (shown_at tables table).columns) snapshot.rows
parts_of tables texts (Done step) = []
parts_of tables texts (Fault fields) = []

pub records_are : (tables : List Shown) (texts : List (List ℕ)) (entry : OutputEntry) → IsEntry tables texts entry → entry_records tables texts entry ≡ (tag_of entry ∷ fields_of tables entry) ∷ parts_of tables texts entry
records_are tables texts (Update table step change) is = first_and_parts step (shown_at tables table).name (shown_at tables table).columns texts change is.1.some
records_are tables texts (Snapshot table snapshot) is = refl
records_are tables texts (Done step) is = refl
records_are tables texts (Fault fields) is = refl

columns_are_part : (columns : List ColumnSpec) (chosen : List ℕ) → AllByRecursion IsPart (columns_record columns chosen)
columns_are_part columns [] = tt
columns_are_part columns (first ∷ others) = (λ rest. refl, tt)

parts_shown_are : (columns : List ColumnSpec) (texts : List (List ℕ)) (change : Change) → AllByRecursion IsPart (parts_shown columns texts change)
parts_shown_are columns texts change =
    let update = change.update in
    let removed = map removed_record (runs update.removed) in
    let shifts = map shift_record update.shifted in
    let added = rows_under (length columns) update.added change.cells in
    let modified = rows_under (length columns) update.modified (drop (length columns * length update.added) change.cells) in
    every-append IsPart (removed ++ shifts ++ map (row_record (codes "a") texts columns) added ++ columns_record columns update.columns) (map (row_record (codes "m") texts columns) modified)
    (every-append IsPart (removed ++ shifts ++ map (row_record (codes "a") texts columns) added) (columns_record columns update.columns)
    (every-append IsPart (removed ++ shifts) (map (row_record (codes "a") texts columns) added)
    (every-append IsPart removed shifts
    (every-map IsPart removed_record (runs update.removed) (every (λ run. IsPart (removed_record run)) (runs update.removed) (λ run rest. refl)))
    (every-map IsPart shift_record update.shifted (every (λ range. IsPart (shift_record range)) update.shifted (λ range rest. refl))))
    (every-map IsPart (row_record (codes "a") texts columns) added (every (λ row. IsPart (row_record (codes "a") texts columns row)) added (λ row rest. refl))))
    (columns_are_part columns update.columns))
    (every-map IsPart (row_record (codes "m") texts columns) modified (every (λ row. IsPart (row_record (codes "m") texts columns row)) modified (λ row rest. refl)))

pub parts_are : (tables : List Shown) (texts : List (List ℕ)) (entry : OutputEntry) → AllByRecursion IsPart (parts_of tables texts entry)
parts_are tables texts (Update table step change) = parts_shown_are (shown_at tables table).columns texts change
parts_are tables texts (Snapshot table snapshot) =
    every-map IsPart (row_record (codes "w") texts (shown_at tables table).columns) snapshot.rows (every (λ row. IsPart (row_record (codes "w") texts (shown_at tables table).columns row)) snapshot.rows (λ row rest. refl))
parts_are tables texts (Done step) = tt
parts_are tables texts (Fault fields) = tt

head_begins : (tables : List Shown) (entry : OutputEntry) (rest : List ℕ) → begins_part (record_text (tag_of entry ∷ fields_of tables entry) ++ rest) ≡ false
head_begins tables (Update table step change) rest = refl
head_begins tables (Snapshot table snapshot) rest = refl
head_begins tables (Done step) rest = refl
head_begins tables (Fault fields) rest = refl

module _ (tables : List Shown) (texts : List (List ℕ)) where
  pub text_is : (entry : OutputEntry) → IsEntry tables texts entry → entry_text tables texts entry ≡ records_text ((tag_of entry ∷ fields_of tables entry) ∷ parts_of tables texts entry)
  text_is entry is = ap records_text (records_are tables texts entry is)

  -- so what stands behind an entry begins no part
  pub next_begins : (entries : List OutputEntry) → AllByRecursion (IsEntry tables texts) entries → begins_part (output_text tables texts entries) ≡ false
  next_begins [] are = refl
  next_begins (entry ∷ entries) are =
      let head = record_text (tag_of entry ∷ fields_of tables entry) in
      let parts = records_text (parts_of tables texts entry) in
      ap (λ (text : List ℕ). begins_part (text ++ output_text tables texts entries)) (text_is entry are.0)
      ∙ ap begins_part (append_assoc head parts (output_text tables texts entries))
      ∙ head_begins tables entry (parts ++ output_text tables texts entries)

  pub begins_with : (entry : OutputEntry) (bytes : List ℕ) → IsEntry tables texts entry → bytes ≡ entry_text tables texts entry → bytes ≡ record_text (tag_of entry ∷ fields_of tables entry) ++ records_text (parts_of tables texts entry)
  begins_with entry bytes is e = e ∙ text_is entry is

  -- an update's text is of no other update
  pub update_same : AreShown tables texts → (table other_table step other_step : ℕ) (shown : Shown) (change other : Change) (bytes : List ℕ) →
      other_table < length tables → table ≡ other_table → shown ≡ get_or tables table shown →
      IsPrinted shown.columns texts step change → IsPrinted (shown_at tables other_table).columns texts other_step other →
      bytes ≡ change_text step shown.name shown.columns texts change → bytes ≡ entry_text tables texts (Update other_table other_step other) →
      Update table step change ≡ Update other_table other_step other
  update_same are table other_table step other_step shown change other bytes less same is_shown printed other_printed e other_e =
      let here : shown ≡ shown_at tables other_table = is_shown ∙ ap (λ n. get_or tables n shown) same ∙ get_or_default tables other_table shown (record { name = []; columns = [] }) less in
      let own = every_at IsShown tables other_table (record { name = []; columns = [] }) less are.each in
      let moved = subst (λ (some : Shown). IsPrinted some.columns texts step change × (bytes ≡ change_text step some.name some.columns texts change)) here (printed, e) in
      let all = text_same (shown_at tables other_table).columns texts step other_step (shown_at tables other_table).name (shown_at tables other_table).name change other
      (record { distinct = own.distinct; rising = are.rising }) moved.0 other_printed (sym moved.1 ∙ other_e) in
      ap (λ n. Update n step change) same ∙ ap (λ n. Update other_table n change) all.0 ∙ ap (Update other_table other_step) all.2

  -- the fields of the record that begins an entry, and the first of them
  pub fields_are : (entry : OutputEntry) (bytes : List ℕ) (fields : List (List ℕ)) → ((first : List ℕ) (others : List (List ℕ)) (rest : List ℕ) → bytes ≡ record_text (first ∷ others) ++ rest → fields ≡ first ∷ others) →
      IsEntry tables texts entry → bytes ≡ entry_text tables texts entry → fields ≡ tag_of entry ∷ fields_of tables entry
  fields_are entry bytes fields read is e = read (tag_of entry) (fields_of tables entry) (records_text (parts_of tables texts entry)) (begins_with entry bytes is e)

  pub tag_is : (entry : OutputEntry) (bytes : List ℕ) (fields : List (List ℕ)) (tag : List ℕ) → ((first : List ℕ) (others : List (List ℕ)) (rest : List ℕ) → bytes ≡ record_text (first ∷ others) ++ rest → fields ≡ first ∷ others) →
      IsEntry tables texts entry → bytes ≡ entry_text tables texts entry → tag ≡ get_or fields 0 [] → tag ≡ tag_of entry
  tag_is entry bytes fields tag read is e first = first ∙ ap (λ (some : List (List ℕ)). get_or some 0 []) (fields_are entry bytes fields read is e)

  -- the entry that comes next
  pub next_entry : (todo : List OutputEntry) (bytes : List ℕ) → AllByRecursion (IsEntry tables texts) todo → bytes ≡ output_text tables texts todo → (length bytes == 0) ≡ false →
      (entry : OutputEntry) × (later : List OutputEntry) × (todo ≡ entry ∷ later) × IsEntry tables texts entry × AllByRecursion (IsEntry tables texts) later
      × (bytes ≡ records_text ((tag_of entry ∷ fields_of tables entry) ∷ parts_of tables texts entry) ++ output_text tables texts later) × (begins_part (output_text tables texts later) ≡ false)
  next_entry [] bytes are e some = absurd (true≢false (sym (ap (λ (some : List ℕ). length some == 0) e) ∙ some))
  next_entry (entry ∷ later) bytes are e some = (entry, later, refl, are.0, are.1, e ∙ ap (λ (text : List ℕ). text ++ output_text tables texts later) (text_is entry are.0), next_begins later are.1)

  output_more : (entries : List OutputEntry) (entry : OutputEntry) → output_text tables texts (entries ++ entry ∷ []) ≡ output_text tables texts entries ++ entry_text tables texts entry
  output_more [] entry = append-nil (entry_text tables texts entry)
  output_more (first ∷ entries) entry = ap (λ (text : List ℕ). entry_text tables texts first ++ text) (output_more entries entry) ∙ sym (append_assoc (entry_text tables texts first) (output_text tables texts entries) (entry_text tables texts entry))

  pub text_more : (entries : List OutputEntry) (entry : OutputEntry) (bytes rest own behind : List ℕ) → bytes ≡ output_text tables texts entries ++ rest → rest ≡ own ++ behind → own ≡ entry_text tables texts entry →
      bytes ≡ output_text tables texts (entries ++ entry ∷ []) ++ behind
  text_more entries entry bytes rest own behind e f g =
      e ∙ ap (λ (text : List ℕ). output_text tables texts entries ++ text) (f ∙ ap (λ (text : List ℕ). text ++ behind) g)
      ∙ sym (append_assoc (output_text tables texts entries) (entry_text tables texts entry) behind)
      ∙ ap (λ (text : List ℕ). text ++ behind) (sym (output_more entries entry))

  pub none_left : (todo : List OutputEntry) (bytes : List ℕ) → AllByRecursion (IsEntry tables texts) todo → bytes ≡ output_text tables texts todo → (length bytes == 0) ≡ true → todo ≡ []
  none_left [] bytes are e none = refl
  none_left (entry ∷ later) bytes are e none =
      absurd (some_text (fields_text (tag_of entry ∷ fields_of tables entry)) (records_text (parts_of tables texts entry)) (output_text tables texts later)
      (sym (none_from_test bytes none) ∙ e ∙ ap (λ (text : List ℕ). text ++ output_text tables texts later) (text_is entry are.0)))
    where
      some_text : (fields parts rest : List ℕ) → [] ≡ ((fields ++ 10 ∷ []) ++ parts) ++ rest → ⊥
      some_text fields parts rest e = ended_is_none fields 10 (parts ++ rest) (sym (e ∙ append_assoc (fields ++ 10 ∷ []) parts rest ∙ append_assoc fields (10 ∷ []) (parts ++ rest)))

-- tags that differ at a place
pub differ_at : (place : ℕ) (a b : List ℕ) → (get_or a place 0 == get_or b place 0) ≡ false → a ≡ b → ⊥
differ_at place a b other same = true≢false (sym (eq-eqb (get_or a place 0) (get_or b place 0) (ap (λ (some : List ℕ). get_or some place 0) same)) ∙ other)

pub gives_same : {T : Type 0} (result : Result T PrintedFault) (x y : T) → x ≡ y → Gives result (λ read. read ≡ x) → Gives result (λ read. read ≡ y)
gives_same (Ok z) x y e h = h ∙ e
gives_same (Err fault) x y e h = h
