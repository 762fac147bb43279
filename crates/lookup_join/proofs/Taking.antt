-- What was taken before a step, by its notes or by the right rows of now.
use Rattle.std.proofs.Common.{◌≡◌, refl, ap, sym, ◌∙◌, subst, Bool, true, false, cond, ◌&&◌, ℕ, List, [], ◌∷◌, ◌++◌, map, filter, Option, Some, None, ℤ, true≢false, unwrap_or, ◌==◌, length, arith}
use Rattle.std.{specs.Prelude.{int_le, option_map, IfSome}, specs.List.AllByRecursion, proofs.lemmas.Bool.ne_eqb, proofs.lemmas.Option.none-some}
use Rattle.key_lists.{specs.Keys.{is_among, IsRising}, proofs.Every.{every-append, every-filter}}
use Rattle.lookup_join.{specs.declared.keyed.Side.TheVariants.Right, specs.declared.pick.Pick.Pick, specs.declared.pick.Pick.TheVariants.Last, specs.Keyed.{key_cells, keyed, time_of}, specs.Latest.{beats, latest_by, or_later}, specs.Notes.{Note, Spot, fresh_note, is_noted, note_of, noting, taken_key, with_note}, specs.Taken.{AreMatched, HasRow, IsThere, cell_of, gathered, match_before, match_in, match_now, modified_pairs, step_notes, taken_cells, touched_spots}, proofs.Gathered.match_is, proofs.Latests.latest_first, proofs.Noting.quiet, proofs.Spans.{latest_every, reach}, proofs.Stays.{own, stays_whole, time}}
use Rattle.row_groups.specs.Members.{Grouped, Member, member_of}
use Rattle.tick_model.{specs.declared.plan.OnPair.OnPair, specs.declared.table.PlainRow.PlainRow, specs.declared.table.PlainTable.PlainTable, specs.Join.taken, specs.Tables.{cell, keys, row_at, same_cells}, proofs.Among.{each_found, rows_among}}
use Rattle.tick_table.{specs.declared.version.Version.Version, specs.declared.version.Version.TheVariants.{Before, Now}, specs.Exact.IsExact, specs.Ticking.Ticking, specs.Versions.table_in}

pub map_twice : {X Y Z : Type 0} (f : Y → Z) (g : X → Y) (o : Option X) → option_map f (option_map g o) ≡ option_map (λ x. f (g x)) o
map_twice f g None = refl
map_twice f g (Some x) = refl

-- what is taken stands in the row under its key
module _ (on : List OnPair) (pick : Pick) (take : List ℕ) (table : PlainTable) (rising : IsRising (keys table.rows)) (cells : List ℤ) (until : ℤ) where
  abbrev chosen : Option PlainRow
  chosen = latest_by pick (λ row. time_of Right pick row.cells) (gathered on pick table.rows cells until)

  key_is : taken_key pick (keyed Right on pick table.rows) cells until ≡ option_map (λ (row : PlainRow). row.key) chosen
  key_is =
      ap (option_map (λ (member : Member). member.key)) (match_is on pick table.rows cells until)
      ∙ map_twice (λ (member : Member). member.key) (λ (row : PlainRow). member_of row.key (key_cells Right on row.cells) (time_of Right pick row.cells)) chosen

  every_chosen : (P : PlainRow → Type 0) → AllByRecursion P table.rows → IfSome chosen P
  every_chosen P h = latest_every pick (λ (row : PlainRow). time_of Right pick row.cells) P (gathered on pick table.rows cells until) (every-filter P (λ (row : PlainRow). same_cells cells (key_cells Right on row.cells) && int_le (time_of Right pick row.cells) until) table.rows h)

  before_of : (other : List PlainRow) (o : Option PlainRow) → IfSome o (λ row. row_at row.key table.rows ≡ Some row) → map (cell_of table.rows other (match_before (option_map (λ (row : PlainRow). row.key) o))) take ≡ taken take o
  before_of other None h = refl
  before_of other (Some row) h = ap (λ (o : Option PlainRow). map (cell (unwrap_or (option_map (λ (row : PlainRow). row.cells) o) [])) take) h

  now_of : (other : List PlainRow) (o : Option PlainRow) → IfSome o (λ row. row_at row.key table.rows ≡ Some row) → map (cell_of other table.rows (match_now (option_map (λ (row : PlainRow). row.key) o))) take ≡ taken take o
  now_of other None h = refl
  now_of other (Some row) h = ap (λ (o : Option PlainRow). map (cell (unwrap_or (option_map (λ (row : PlainRow). row.cells) o) [])) take) h

  pub taken_before : (other : List PlainRow) → map (cell_of table.rows other (match_before (taken_key pick (keyed Right on pick table.rows) cells until))) take ≡ taken_cells on pick take table.rows cells until
  taken_before other = ap (λ o. map (cell_of table.rows other (match_before o)) take) key_is ∙ before_of other chosen (every_chosen (λ row. row_at row.key table.rows ≡ Some row) (each_found table.rows rising))

  pub taken_now : (other : List PlainRow) → map (cell_of other table.rows (match_now (taken_key pick (keyed Right on pick table.rows) cells until))) take ≡ taken_cells on pick take table.rows cells until
  taken_now other = ap (λ o. map (cell_of other table.rows (match_now o)) take) key_is ∙ now_of other chosen (every_chosen (λ row. row_at row.key table.rows ≡ Some row) (each_found table.rows rising))

  there_before : (other : PlainTable) (o : Option PlainRow) → IfSome o (λ row. is_among row.key (keys table.rows) ≡ true) → IsThere table other (match_before (option_map (λ (row : PlainRow). row.key) o))
  there_before other None h = tt
  there_before other (Some row) h = h

  there_now : (other : PlainTable) (o : Option PlainRow) → IfSome o (λ row. is_among row.key (keys table.rows) ≡ true) → IsThere other table (match_now (option_map (λ (row : PlainRow). row.key) o))
  there_now other None h = tt
  there_now other (Some row) h = h

  pub is_there_before : (other : PlainTable) → IsThere table other (match_before (taken_key pick (keyed Right on pick table.rows) cells until))
  is_there_before other = subst (λ o. IsThere table other (match_before o)) (sym key_is) (there_before other chosen (every_chosen (λ row. is_among row.key (keys table.rows) ≡ true) (rows_among table.rows)))

  pub is_there_now : (other : PlainTable) → IsThere other table (match_now (taken_key pick (keyed Right on pick table.rows) cells until))
  is_there_now other = subst (λ o. IsThere other table (match_now o)) (sym key_is) (there_now other chosen (every_chosen (λ row. is_among row.key (keys table.rows) ≡ true) (rows_among table.rows)))

pub has_row : (ks : List ℕ) (key : ℕ) → is_among key ks ≡ true → (length ks == 0) ≡ false
has_row [] key h = absurd (true≢false (sym h))
has_row (k ∷ ks) key h = ne_eqb (length (k ∷ ks)) 0 (λ e. omega (arith, e))

-- what was taken, or is, where the rows of a join may be read
module _ {on : List OnPair} {pick : Pick} {take : List ℕ} {left right : Ticking} {index : Grouped} {notes : List Note} (are : AreMatched on pick take left right index notes) (cells : List ℤ) (time : ℤ) where
  pub in_there : (version : Version) → HasRow (table_in version left) → IsThere right.old right.new (match_in version pick index.members notes cells time)
  in_there Before some = are.there some cells time
  in_there Now some = subst (λ (index : Grouped). IsThere right.old right.new (match_now (taken_key pick index.members cells time))) (sym are.rows) (is_there_now on pick take right.new are.right_exact.tick.new_table.rising cells time right.old)

  pub in_cells : (version : Version) → HasRow (table_in version left) → map (cell_of right.old.rows right.new.rows (match_in version pick index.members notes cells time)) take ≡ taken_cells on pick take (table_in version right).rows cells time
  in_cells Before some = are.before some cells time
  in_cells Now some = subst (λ (index : Grouped). map (cell_of right.old.rows right.new.rows (match_now (taken_key pick index.members cells time))) take ≡ taken_cells on pick take right.new.rows cells time) (sym are.rows) (taken_now on pick take right.new are.right_exact.tick.new_table.rising cells time right.old.rows)

-- where there is no latest, none passes
pub latest_none : {X : Type 0} (pick : Pick) (time : X → ℤ) (p : X → Bool) (xs : List X) → latest_by pick time (filter p xs) ≡ None → AllByRecursion (λ x. p x ≡ false) xs
latest_none pick time p [] e = tt
latest_none {X = X} pick time p (x ∷ xs) e = by (p x) refl (sym (latest_first pick time p x xs) ∙ e) (latest_none pick time p xs)
  where
    some : (o : Option X) → or_later pick time x o ≡ None → true ≡ false
    some None f = absurd (none-some x (sym f))
    some (Some best) f = (elim (beats pick (time best) (time x)) as (λ b. cond b (Some x) (Some best) ≡ None → true ≡ false) [ true ↦ λ g. absurd (none-some x (sym g)) | false ↦ λ g. absurd (none-some best (sym g)) ]) f

    by : (b : Bool) → p x ≡ b → cond b (or_later pick time x (latest_by pick time (filter p xs))) (latest_by pick time (filter p xs)) ≡ None → (latest_by pick time (filter p xs) ≡ None → AllByRecursion (λ x. p x ≡ false) xs) → AllByRecursion (λ x. p x ≡ false) (x ∷ xs)
    by true is f rest = absurd (true≢false (some (latest_by pick time (filter p xs)) f))
    by false is f rest = (is, rest f)

-- the notes of a step
module _ (on : List OnPair) (pick : Pick) (t : Ticking) (e : IsExact t) where
  abbrev notes : List Note
  notes = step_notes on pick t

  abbrev pub IsOwn : Note → Type 0
  IsOwn note = note.before ≡ taken_key pick (keyed Right on pick t.old.rows) note.cells note.at

  noting_own : (noted : List Note) (spots : List Spot) → AllByRecursion IsOwn noted → AllByRecursion IsOwn (noting pick (keyed Right on pick t.old.rows) noted spots)
  noting_own noted [] h = h
  noting_own noted (spot ∷ spots) h =
      noting_own (with_note (fresh_note pick (keyed Right on pick t.old.rows) spot) noted) spots
      (elim (is_noted (note_of spot.cells spot.at noted) spot.at) as (λ b. AllByRecursion IsOwn (cond b noted (noted ++ fresh_note pick (keyed Right on pick t.old.rows) spot ∷ []))) [
        | true ↦ h
        | false ↦ every-append IsOwn noted (fresh_note pick (keyed Right on pick t.old.rows) spot ∷ []) h (refl, tt)
      ])

  pub notes_own : AllByRecursion IsOwn notes
  notes_own = noting_own [] (touched_spots on pick t.old.rows t.new.rows t.update (modified_pairs t)) tt

  -- what is not noted stays
  pub unnoted_stays : (take : List ℕ) (cells : List ℤ) (until : ℤ) → note_of cells until notes ≡ None → taken_cells on pick take t.old.rows cells until ≡ taken_cells on pick take t.new.rows cells until
  unnoted_stays take cells until none =
      stays_whole on pick take cells t e until
      (quiet on pick t e take cells (λ group moment. same_cells cells group && int_le moment until) (reach (time on pick take cells) (own on pick take cells) until) (λ row. refl)
      (latest_none Last (λ (note : Note). note.at) (λ (note : Note). same_cells cells note.cells && int_le note.at until) notes none))
