-- The left rows for which a note speaks.
use Rattle.std.proofs.Common.{◌≡◌, refl, ap, ap₂, sym, ◌∙◌, subst, Bool, true, false, not, cond, ◌&&◌, ◌||◌, ◌==◌, ℕ, List, [], ◌∷◌, map, filter, Option, Some, None, ℤ, true≢false}
use Rattle.std.{specs.Prelude.{flat_map, int_le, int_lt, option_map, unwrap_or, IfSome}, specs.List.AllByRecursion, proofs.lemmas.Bool.{and_parts, or_parts}, specs.Cmp.Rules.signed_items}
use Rattle.key_lists.{specs.Keys.is_among, proofs.Among.{among-append, among-filter}, proofs.Every.{every_weaker, every-filter, filter-map, filter_filter, filter_same, map_map}}
use Rattle.lookup_join.{specs.declared.keyed.Side.TheVariants.{Left, Right}, specs.declared.pick.Pick.Pick, specs.declared.pick.Pick.TheVariants.Last, specs.Keyed.{key_cells, keyed, time_of}, specs.Latest.{during, match_of, next_time}, specs.Notes.{Note, next_after, note_of}, specs.Taken.{cell_of, end_of, match_before, speaks, step_notes, taken_cells, turned_note}, proofs.Before.{spoken_late, unspoken_late}, proofs.Clear.{after_clear, clear_after, clear_late, clear_next, earlier_ends, ends_after, late_clear, next_clear, within}, proofs.Noted.{found_own, noted_stays, noted_then, notes_clear}, proofs.Noting.quiet, proofs.Spans.{between, latest_every}, proofs.Stays.{before_then, late, own, taken_then, time}, proofs.Taking.{IsOwn, taken_before, taken_now, unnoted_stays}}
use Rattle.row_groups.specs.Members.{Member, by_at, group_of, keys_of, member_of, placed}
use Rattle.tick_model.{specs.declared.plan.OnPair.OnPair, specs.declared.table.PlainRow.PlainRow, specs.declared.table.PlainTable.PlainTable, specs.Tables.{IsTable, cells_at, keys, row_at, same_cells}, proofs.Among.each_found}
use Rattle.tick_table.{specs.Exact.IsExact, specs.Ticking.Ticking}

pub same_is : (xs ys : List ℤ) → same_cells xs ys ≡ true → xs ≡ ys
same_is xs ys = (signed_items xs ys).0

pub same_own : (xs : List ℤ) → same_cells xs xs ≡ true
same_own xs = (signed_items xs xs).1 refl

-- the keys of the rows whose cells pass a test
pub passing_at : (test : List ℤ → Bool) (table : PlainTable) (key : ℕ) → IsTable table → is_among key (keys (filter (λ row. test row.cells) table.rows)) ≡ (test (cells_at key table.rows) && is_among key (keys table.rows))
passing_at test table key t =
    ap (λ rows. is_among key (keys rows)) (filter_same (λ row. test row.cells) (λ row. test (cells_at row.key table.rows)) table.rows
    (every_weaker (λ row. row_at row.key table.rows ≡ Some row) (λ row. test row.cells ≡ test (cells_at row.key table.rows)) table.rows
    (λ row found. ap (λ (o : Option PlainRow). test (unwrap_or (option_map (λ (row : PlainRow). row.cells) o) [])) (sym found)) (each_found table.rows t.rising)))
    ∙ ap (is_among key) (sym (filter-map (λ key. test (cells_at key table.rows)) (λ (row : PlainRow). row.key) table.rows))
    ∙ among-filter (λ key. test (cells_at key table.rows)) key (keys table.rows)

-- a key that all tell is told by one
pub told_by_one : {X : Type 0} (P : X → Type 0) (f : X → List ℕ) (key : ℕ) (xs : List X) → AllByRecursion P xs → is_among key (flat_map f xs) ≡ true → (x : X) × (P x × (is_among key (f x) ≡ true))
told_by_one {X = X} P f key [] h e = absurd (true≢false (sym e))
told_by_one {X = X} P f key (x ∷ xs) h e = here (is_among key (f x)) refl (λ k. told_by_one P f key xs h.1 k)
  where
    here : (b : Bool) → is_among key (f x) ≡ b → (is_among key (flat_map f xs) ≡ true → (x : X) × (P x × (is_among key (f x) ≡ true))) → (x : X) × (P x × (is_among key (f x) ≡ true))
    here true is rest = (x, (h.0, is))
    here false is rest = rest (sym (ap (λ b. b || is_among key (flat_map f xs)) is) ∙ sym (among-append key (f x) (flat_map f xs)) ∙ e)

-- and one that is not told is told by none
pub untold_each : {X : Type 0} (f : X → List ℕ) (key : ℕ) (xs : List X) → is_among key (flat_map f xs) ≡ false → AllByRecursion (λ x. is_among key (f x) ≡ false) xs
untold_each f key [] e = tt
untold_each f key (x ∷ xs) e = let parts = or_parts _ _ (sym (among-append key (f x) (flat_map f xs)) ∙ e) in (parts.0, untold_each f key xs parts.1)

-- the keys of members in order of time are those in their own order
module _ (p : Member → Bool) (key : ℕ) where
  among_first : (member : Member) (members : List Member) → is_among key (keys_of (filter p (member ∷ members))) ≡ ((p member && (member.key == key)) || is_among key (keys_of (filter p members)))
  among_first member members = by (p member)
    where
      by : (b : Bool) → is_among key (keys_of (cond b (member ∷ filter p members) (filter p members))) ≡ ((b && (member.key == key)) || is_among key (keys_of (filter p members)))
      by true = refl
      by false = refl

  swapped : (a b c : Bool) → (a || (b || c)) ≡ (b || (a || c))
  swapped true true c = refl
  swapped true false c = refl
  swapped false true c = refl
  swapped false false c = refl

  among-placed : (member : Member) (members : List Member) → is_among key (keys_of (filter p (placed member members))) ≡ is_among key (keys_of (filter p (member ∷ members)))
  among-placed member [] = refl
  among-placed member (other ∷ others) = by (int_lt other.at member.at) (among-placed member others)
    where
      by : (b : Bool) → is_among key (keys_of (filter p (placed member others))) ≡ is_among key (keys_of (filter p (member ∷ others)))
          → is_among key (keys_of (filter p (cond b (other ∷ placed member others) (member ∷ other ∷ others)))) ≡ is_among key (keys_of (filter p (member ∷ other ∷ others)))
      by true rest =
          among_first other (placed member others)
          ∙ ap (λ b. (p other && (other.key == key)) || b) (rest ∙ among_first member others)
          ∙ swapped (p other && (other.key == key)) (p member && (member.key == key)) (is_among key (keys_of (filter p others)))
          ∙ sym (among_first member (other ∷ others) ∙ ap (λ b. (p member && (member.key == key)) || b) (among_first other others))
      by false rest = refl

  among-by_at : (members : List Member) → is_among key (keys_of (filter p (by_at members))) ≡ is_among key (keys_of (filter p members))
  among-by_at [] = refl
  among-by_at (member ∷ members) =
      among-placed member (by_at members) ∙ among_first member (by_at members)
      ∙ ap (λ b. (p member && (member.key == key)) || b) (among-by_at members) ∙ sym (among_first member members)

  -- the keys of those members of a group that pass a test
  pub keys-among : (on : List OnPair) (pick : Pick) (rows : List PlainRow) (cells : List ℤ) → is_among key (keys_of (filter p (group_of cells (keyed Left on pick rows))))
      ≡ is_among key (keys (filter (λ row. same_cells cells (key_cells Left on row.cells) && p (member_of row.key (key_cells Left on row.cells) (time_of Left pick row.cells))) rows))
  keys-among on pick rows cells =
      among-by_at (filter (λ (member : Member). same_cells cells member.cells) (keyed Left on pick rows))
      ∙ ap (λ members. is_among key (keys_of members))
      (filter_filter p (λ (member : Member). same_cells cells member.cells) (keyed Left on pick rows)
      ∙ filter-map (λ (member : Member). same_cells cells member.cells && p member) (λ (row : PlainRow). member_of row.key (key_cells Left on row.cells) (time_of Left pick row.cells)) rows)
      ∙ ap (is_among key)
      (map_map (λ (member : Member). member.key) (λ (row : PlainRow). member_of row.key (key_cells Left on row.cells) (time_of Left pick row.cells))
      (filter (λ row. same_cells cells (key_cells Left on row.cells) && p (member_of row.key (key_cells Left on row.cells) (time_of Left pick row.cells))) rows))

module _ (on : List OnPair) (pick : Pick) (take : List ℕ) (l : Ticking) (left_exact : IsExact l) (r : Ticking) (right_exact : IsExact r) where
  abbrev notes : List Note
  notes = step_notes on pick r

  abbrev members : List Member
  members = keyed Right on pick r.new.rows

  abbrev pub told : Note → List ℕ
  told = turned_note pick take (keyed Left on pick l.new.rows) members notes r.old.rows r.new.rows

  abbrev pub IsHeld : Note → Type 0
  IsHeld = IsOwn on pick r right_exact

  abbrev pub before : List ℤ → ℤ → List ℤ
  before = taken_cells on pick take r.old.rows

  abbrev pub now : List ℤ → ℤ → List ℤ
  now = taken_cells on pick take r.new.rows

  -- whether a note speaks for a left row with these cells
  abbrev pub speaks_for : Note → List ℤ → Bool
  speaks_for note row = same_cells note.cells (key_cells Left on row) && (int_le note.at (time_of Left pick row) && ends_after (time_of Left pick row) (end_of members notes note.cells note.at))

  -- a note tells the left rows for which it speaks, where other cells are taken at it now
  pub told_among : (note : Note) (key : ℕ) → IsHeld note → is_among key (told note) ≡ (not (same_cells (now note.cells note.at) (before note.cells note.at)) && (speaks_for note (cells_at key l.new.rows) && is_among key (keys l.new.rows)))
  told_among note key right =
      ap (λ b. is_among key (cond b [] (keys_of (filter (during note.at (end_of members notes note.cells note.at)) (group_of note.cells (keyed Left on pick l.new.rows))))))
      (ap₂ same_cells (taken_now on pick take r.new right_exact.tick.new_table.rising note.cells note.at r.old.rows)
      (ap (λ o. map (cell_of r.old.rows r.new.rows (match_before o)) take) right ∙ taken_before on pick take r.old right_exact.tick.old_table.rising note.cells note.at r.new.rows))
      ∙ by (same_cells (now note.cells note.at) (before note.cells note.at)) (keys_of (filter (during note.at (end_of members notes note.cells note.at)) (group_of note.cells (keyed Left on pick l.new.rows))))
      ∙ ap (λ b. not (same_cells (now note.cells note.at) (before note.cells note.at)) && b)
      (keys-among (during note.at (end_of members notes note.cells note.at)) key on pick l.new.rows note.cells ∙ passing_at (speaks_for note) l.new key left_exact.tick.new_table)
    where
      by : (b : Bool) (told : List ℕ) → is_among key (cond b [] told) ≡ (not b && is_among key told)
      by true told = refl
      by false told = refl

  module _ (key : ℕ) (there : is_among key (keys l.new.rows) ≡ true) where
    abbrev cells : List ℤ
    cells = key_cells Left on (cells_at key l.new.rows)

    abbrev moment : ℤ
    moment = time_of Left pick (cells_at key l.new.rows)

    -- the latest note, where no right row comes after it, speaks for the row
    latest_speaks : (note : Note) → note_of cells moment notes ≡ Some note → late on pick take cells note.at moment r.new.rows ≡ None → speaks_for note (cells_at key l.new.rows) ≡ true
    latest_speaks note is none =
        let found = found_own on pick r right_exact cells moment note is in
        ap₂ (λ a b. a && b) (ap (λ group. same_cells group cells) found.1.0 ∙ same_own cells)
        (ap₂ (λ a b. a && b) found.1.1
        (earlier_ends moment (next_time note.cells note.at members) (next_after note.cells note.at notes)
        ∙ ap₂ (λ a b. a && b)
        (ap (λ group. ends_after moment (next_time group note.at members)) found.1.0 ∙ clear_next cells note.at moment members (late_clear cells note.at moment on pick take r.new.rows none))
        (ap (λ group. ends_after moment (next_after group note.at notes)) found.1.0 ∙ clear_after cells note.at moment notes (notes_clear on pick r right_exact cells moment note is))))

    -- where no note tells the row, it takes what it took
    pub same_taken : AllByRecursion (λ note. is_among key (told note) ≡ false) notes → before cells moment ≡ now cells moment
    same_taken untold = by (note_of cells moment notes) refl
      where
        untold_one : (note : Note) → note_of cells moment notes ≡ Some note → is_among key (told note) ≡ false
        untold_one note is =
            subst (λ o. IfSome o (λ note. is_among key (told note) ≡ false)) is
            (latest_every Last (λ (note : Note). note.at) (λ note. is_among key (told note) ≡ false) (filter (λ (note : Note). same_cells cells note.cells && int_le note.at moment) notes)
            (every-filter (λ note. is_among key (told note) ≡ false) (λ (note : Note). same_cells cells note.cells && int_le note.at moment) notes untold))

        equal : (note : Note) → note_of cells moment notes ≡ Some note → late on pick take cells note.at moment r.new.rows ≡ None → (b : Bool) → same_cells (now note.cells note.at) (before note.cells note.at) ≡ b → before cells moment ≡ now cells moment
        equal note is none true e =
            let found = found_own on pick r right_exact cells moment note is in
            noted_then on pick r right_exact take cells moment note is none
            ∙ ap (λ group. before group note.at) (sym found.1.0)
            ∙ sym (same_is (now note.cells note.at) (before note.cells note.at) e)
            ∙ ap (λ group. now group note.at) found.1.0
            ∙ sym (taken_then on pick take cells note.at moment r.new.rows found.1.1 none)
        equal note is none false e =
            absurd (true≢false
            (sym (told_among note key (found_own on pick r right_exact cells moment note is).0
            ∙ ap₂ (λ a b. not a && b) e (ap₂ (λ a b. a && b) (latest_speaks note is none) there))
            ∙ untold_one note is))

        spoken : (note : Note) → note_of cells moment notes ≡ Some note → (b : Bool) → speaks (match_of pick cells moment members) note.at ≡ b → before cells moment ≡ now cells moment
        spoken note is true s = equal note is (spoken_late on pick take cells moment r.new.rows note (found_own on pick r right_exact cells moment note is).1.1 s) (same_cells (now note.cells note.at) (before note.cells note.at)) refl
        spoken note is false s =
            let came = unspoken_late on pick take cells moment r.new.rows note (found_own on pick r right_exact cells moment note is).1.1 s in
            noted_stays on pick r right_exact take cells moment note came.0 is came.1

        by : (o : Option Note) → note_of cells moment notes ≡ o → before cells moment ≡ now cells moment
        by None is = unnoted_stays on pick r right_exact take cells moment is
        by (Some note) is = spoken note is (speaks (match_of pick cells moment members) note.at) refl

    -- where a note tells it, it takes other cells
    pub other_taken : (note : Note) → IsHeld note → is_among key (told note) ≡ true → before cells moment ≡ now cells moment → ⊥
    other_taken note right tells same =
        let parts = and_parts _ _ (sym (told_among note key right) ∙ tells) in
        let named = and_parts _ _ (and_parts _ _ parts.1).0 in
        let timed = and_parts _ _ named.1 in
        let ends = and_parts _ _ (sym (earlier_ends moment (next_time note.cells note.at members) (next_after note.cells note.at notes)) ∙ timed.1) in
        let none : late on pick take note.cells note.at moment r.new.rows ≡ None = clear_late note.cells note.at moment on pick take r.new.rows (next_clear note.cells note.at moment members ends.0) in
        let calm = quiet on pick r right_exact take note.cells (within note.cells note.at moment) (between (time on pick take note.cells) (own on pick take note.cells) note.at moment) (λ row. refl) (after_clear note.cells note.at moment notes ends.1) in
        let group : note.cells ≡ cells = same_is note.cells cells named.0 in
        let equal : now note.cells note.at ≡ before note.cells note.at =
        sym (taken_then on pick take note.cells note.at moment r.new.rows timed.0 none)
        ∙ ap (λ group. now group moment) group ∙ sym same ∙ ap (λ group. before group moment) (sym group)
        ∙ before_then on pick take note.cells r right_exact note.at moment timed.0 calm none in
        true≢false (sym parts.0 ∙ ap not (ap (same_cells (now note.cells note.at)) (sym equal) ∙ same_own (now note.cells note.at)))
