-- What was taken before a step, by its notes and by the right rows of now.
use Rattle.std.proofs.Common.{◌≡◌, refl, ap, ap₂, sym, ◌∙◌, subst, Bool, true, false, cond, ℕ, ◌<◌, List, [], map, filter, Option, Some, None, ℤ, true≢false}
use Rattle.std.{specs.Prelude.{int_le, int_lt, option_map, IfSome}, specs.List.AllByRecursion}
use Rattle.key_lists.proofs.Every.{every_weaker, filter-map}
use Rattle.lookup_join.{specs.declared.keyed.Side.TheVariants.Right, specs.declared.pick.Pick.Pick, specs.Keyed.{indexed, key_cells, keyed, time_of}, specs.Latest.{latest_by, match_of}, specs.Notes.{Note, note_of, taken_key}, specs.Taken.{AreMatched, IsFrom, IsThere, before_by, cell_of, gathered, match_as_before, match_before, match_now, speaks, step_notes, taken_cells, told_notes}, proofs.Gathered.match_is, proofs.Noted.{found_own, noted_stays, noted_then}, proofs.Noting.told_all, proofs.Spans.{apart, early_is, late_is, latest-map, latest_split, or_else, reach}, proofs.Stays.{late, own, time}, proofs.Taking.{IsOwn, is_there_before, is_there_now, map_twice, notes_own, taken_before, taken_now, unnoted_stays}}
use Rattle.row_groups.specs.Members.{Grouped, Member, member_of}
use Rattle.tick_model.{specs.declared.plan.OnPair.OnPair, specs.declared.table.PlainRow.PlainRow}
use Rattle.tick_table.{specs.Exact.IsExact, specs.Ticking.Ticking}

-- whether a note at this time speaks, by the time of the right row of now
abbrev speaks_at : Option ℤ → ℤ → Bool
speaks_at None from = true
speaks_at (Some moment) from = int_le moment from

speaks_is : (now : Option Member) (noted : ℤ) → speaks now noted ≡ speaks_at (option_map (λ (member : Member). member.at) now) noted
speaks_is None noted = refl
speaks_is (Some member) noted = refl

module _ {X : Type 0} (moment : X → ℤ) (from : ℤ) where
  none_late : (l o : Option X) → IfSome l (λ x. int_lt from (moment x) ≡ true) → speaks_at (option_map moment (or_else l o)) from ≡ true → l ≡ None
  none_late None o h e = refl
  none_late (Some x) o h e = absurd (true≢false (sym e ∙ apart (moment x) from h))

  some_late : (l o : Option X) → IfSome o (λ x. int_le (moment x) from ≡ true) → speaks_at (option_map moment (or_else l o)) from ≡ false → (x : X) × (l ≡ Some x)
  some_late None None h e = absurd (true≢false e)
  some_late None (Some x) h e = absurd (true≢false (sym h ∙ e))
  some_late (Some x) o h e = (x, refl)

module _ (on : List OnPair) (pick : Pick) (take : List ℕ) (cells : List ℤ) (until : ℤ) (rows : List PlainRow) where
  abbrev all_cells : List (List ℤ)
  all_cells = map (λ (row : PlainRow). row.cells) rows

  abbrev moment : List ℤ → ℤ
  moment = time on pick take cells

  abbrev passes : List ℤ → Bool
  passes = own on pick take cells

  -- the time of the match is that of the row that is picked
  time_is : option_map (λ (member : Member). member.at) (match_of pick cells until (keyed Right on pick rows)) ≡ option_map moment (latest_by pick moment (filter (reach moment passes until) all_cells))
  time_is =
      ap (option_map (λ (member : Member). member.at)) (match_is on pick rows cells until)
      ∙ map_twice (λ (member : Member). member.at) (λ (row : PlainRow). member_of row.key (key_cells Right on row.cells) (time_of Right pick row.cells)) (latest_by pick (λ (row : PlainRow). moment row.cells) (gathered on pick rows cells until))
      ∙ sym (map_twice moment (λ (row : PlainRow). row.cells) (latest_by pick (λ (row : PlainRow). moment row.cells) (gathered on pick rows cells until)))
      ∙ ap (option_map moment)
      (sym (latest-map pick moment (λ (row : PlainRow). row.cells) (gathered on pick rows cells until))
      ∙ ap (latest_by pick moment) (sym (filter-map (reach moment passes until) (λ (row : PlainRow). row.cells) rows)))

  module _ (note : Note) (ordered : int_le note.at until ≡ true) where
    speaks_split : speaks (match_of pick cells until (keyed Right on pick rows)) note.at ≡ speaks_at (option_map moment (or_else (late on pick take cells note.at until rows) (latest_by pick moment (filter (reach moment passes note.at) all_cells)))) note.at
    speaks_split =
        speaks_is (match_of pick cells until (keyed Right on pick rows)) note.at
        ∙ ap (λ o. speaks_at o note.at) (time_is ∙ ap (option_map moment) (latest_split pick moment passes note.at until ordered all_cells))

    -- a note speaks where no right row comes after it
    pub spoken_late : speaks (match_of pick cells until (keyed Right on pick rows)) note.at ≡ true → late on pick take cells note.at until rows ≡ None
    spoken_late e = none_late moment note.at (late on pick take cells note.at until rows) (latest_by pick moment (filter (reach moment passes note.at) all_cells)) (late_is pick moment passes note.at until ordered all_cells) (sym speaks_split ∙ e)

    pub unspoken_late : speaks (match_of pick cells until (keyed Right on pick rows)) note.at ≡ false → (row : List ℤ) × (late on pick take cells note.at until rows ≡ Some row)
    unspoken_late e = some_late moment note.at (late on pick take cells note.at until rows) (latest_by pick moment (filter (reach moment passes note.at) all_cells)) (early_is pick moment passes note.at until ordered all_cells) (sym speaks_split ∙ e)

module _ (on : List OnPair) (pick : Pick) (t : Ticking) (e : IsExact t) where
  abbrev notes : List Note
  notes = step_notes on pick t

  abbrev members : List Member
  members = keyed Right on pick t.new.rows

  -- the right row that was taken before is there
  pub before_there : (cells : List ℤ) (until : ℤ) → IsThere t.old t.new (match_as_before pick members notes cells until)
  before_there cells until = by (note_of cells until notes) refl
    where
      now_there : IsThere t.old t.new (match_now (taken_key pick members cells until))
      now_there = is_there_now on pick [] t.new e.tick.new_table.rising cells until t.old

      by : (o : Option Note) → note_of cells until notes ≡ o → IsThere t.old t.new (before_by (match_of pick cells until members) o)
      by None is = now_there
      by (Some note) is =
          elim (speaks (match_of pick cells until members) note.at) as (λ b. IsThere t.old t.new (cond b (match_before note.before) (match_now (taken_key pick members cells until)))) [
            | true ↦ subst (λ o. IsThere t.old t.new (match_before o)) (sym (found_own on pick t e cells until note is).0) (is_there_before on pick [] t.old e.tick.old_table.rising note.cells note.at t.new)
            | false ↦ now_there
          ]

  -- and its cells are those that were taken
  pub before_taken : (take : List ℕ) (cells : List ℤ) (until : ℤ) → map (cell_of t.old.rows t.new.rows (match_as_before pick members notes cells until)) take ≡ taken_cells on pick take t.old.rows cells until
  before_taken take cells until = by (note_of cells until notes) refl
    where
      now_taken : map (cell_of t.old.rows t.new.rows (match_now (taken_key pick members cells until))) take ≡ taken_cells on pick take t.new.rows cells until
      now_taken = taken_now on pick take t.new e.tick.new_table.rising cells until t.old.rows

      spoken : (note : Note) → note_of cells until notes ≡ Some note → (b : Bool) → speaks (match_of pick cells until members) note.at ≡ b → map (cell_of t.old.rows t.new.rows (cond b (match_before note.before) (match_now (taken_key pick members cells until)))) take ≡ taken_cells on pick take t.old.rows cells until
      spoken note is true s =
          let found = found_own on pick t e cells until note is in
          ap (λ o. map (cell_of t.old.rows t.new.rows (match_before o)) take) found.0
          ∙ taken_before on pick take t.old e.tick.old_table.rising note.cells note.at t.new.rows
          ∙ ap (λ group. taken_cells on pick take t.old.rows group note.at) found.1.0
          ∙ sym (noted_then on pick t e take cells until note is (spoken_late on pick take cells until t.new.rows note found.1.1 s))
      spoken note is false s =
          let found = found_own on pick t e cells until note is in
          let came = unspoken_late on pick take cells until t.new.rows note found.1.1 s in
          now_taken ∙ sym (noted_stays on pick t e take cells until note came.0 is came.1)

      by : (o : Option Note) → note_of cells until notes ≡ o → map (cell_of t.old.rows t.new.rows (before_by (match_of pick cells until members) o)) take ≡ taken_cells on pick take t.old.rows cells until
      by None is = now_taken ∙ sym (unnoted_stays on pick t e take cells until is)
      by (Some note) is = spoken note is (speaks (match_of pick cells until members) note.at) refl

  pub matched : (take : List ℕ) (left : Ticking) (index : Grouped) (noted : List Note) → IsExact left → AllByRecursion (λ column. column < t.new.width) take → index ≡ indexed Right on pick t.new.rows → noted ≡ told_notes on pick left t → AreMatched on pick take left t index noted
  matched take left index noted l within i n = record {
    left_exact = l;
    right_exact = e;
    within = within;
    rows = i;
    there = λ some cells until. subst (λ rows. IsThere t.old t.new (match_as_before pick rows noted cells until)) (sym (ap (λ (index : Grouped). index.members) i)) (subst (λ notes. IsThere t.old t.new (match_as_before pick members notes cells until)) (sym (n ∙ told_all on pick t e left some)) (before_there cells until));
    before = λ some cells until. ap₂ (λ (index : Grouped) notes. map (cell_of t.old.rows t.new.rows (match_as_before pick index.members notes cells until)) take) i (n ∙ told_all on pick t e left some) ∙ before_taken take cells until;
  }

  -- each note is of the row that was taken, and this is there as the one that is taken now
  pub notes_from : AllByRecursion (IsFrom pick members t.old t.new) notes
  notes_from =
      every_weaker (IsOwn on pick t e) (IsFrom pick members t.old t.new) notes
      (λ note right. record {
        before = subst (λ o. IsThere t.old t.new (match_before o)) (sym right) (is_there_before on pick [] t.old e.tick.old_table.rising note.cells note.at t.new);
        now = is_there_now on pick [] t.new e.tick.new_table.rising note.cells note.at t.old;
      })
      (notes_own on pick t e)
