-- What notes of places say: each touched place is noted, and between notes no row is touched.
use Rattle.std.proofs.Common.{◌≡◌, refl, ap, ap₂, sym, ◌∙◌, subst, Bool, true, false, cond, ◌&&◌, ℕ, ◌+◌, ◌*◌, ◌≤◌, ◌==◌, arith, List, [], ◌∷◌, ◌++◌, map, filter, length, length-append, Option, Some, None, ℤ}
use Rattle.std.{specs.Prelude.{flat_map, int_le, IfSome}, specs.Cmp.signed_Decides, specs.Cmp.Rules.signed_items, specs.List.AllByRecursion, specs.Ordering.int_eq, proofs.lemmas.Bool.and_parts, proofs.lemmas.List.length-map}
use Rattle.key_lists.{proofs.Every.{every_both, every_unmapped, every_weaker, every-filter, filter_passes}, proofs.Parts.{every_front, every_back}}
use Rattle.lookup_join.{specs.declared.keyed.Side.TheVariants.Right, specs.declared.pick.Pick.Pick, specs.declared.pick.Pick.TheVariants.Last, specs.Keyed.{key_cells, keyed, time_of}, specs.Notes.{Note, Spot, fresh_note, is_noted, note_of, noting, with_note}, specs.Taken.{HasRow, modified_pairs, spot_at, step_notes, told_notes, touched_spots}, proofs.Quiet.FailsBoth, proofs.Spans.latest_every, proofs.Stays.IsQuiet}
use Rattle.row_groups.specs.Members.{Member}
use Rattle.tick_model.{specs.declared.plan.OnPair.OnPair, specs.declared.update.KeyPair.KeyPair, specs.Tables.{cells_at, keys, same_cells}}
use Rattle.tick_table.{specs.Exact.IsExact, specs.Ticking.Ticking}

every_two : {X Y : Type 0} (P : Y → Type 0) (f g : X → Y) (xs : List X) → AllByRecursion P (flat_map (λ x. f x ∷ g x ∷ []) xs) → AllByRecursion (λ x. P (f x) × P (g x)) xs
every_two P f g [] h = tt
every_two P f g (x ∷ xs) h = ((h.0, h.1.0), every_two P f g xs h.1.1)

-- a test that fails at all notes fails at the place
abbrev pub IsNoted : List Note → Spot → Type 0
IsNoted notes spot = (f : List ℤ → ℤ → Bool) → AllByRecursion (λ (note : Note). f note.cells note.at ≡ false) notes → f spot.cells spot.at ≡ false

module _ (pick : Pick) (members : List Member) where
  noted_kept : (note : Note) (notes : List Note) (spot : Spot) → IsNoted notes spot → IsNoted (with_note note notes) spot
  noted_kept note notes spot h =
      elim (is_noted (note_of note.cells note.at notes) note.at) as (λ b. IsNoted (cond b notes (notes ++ note ∷ [])) spot) [
        | true ↦ h
        | false ↦ λ f all. h f (every_front (λ (note : Note). f note.cells note.at ≡ false) notes (note ∷ []) all)
      ]

  noted_last : (notes : List Note) (spot : Spot) → IsNoted (notes ++ fresh_note pick members spot ∷ []) spot
  noted_last notes spot = λ f all. (every_back (λ (note : Note). f note.cells note.at ≡ false) notes (fresh_note pick members spot ∷ []) all).0

  noted_by : (notes : List Note) (spot : Spot) (other : Note) → note_of spot.cells spot.at notes ≡ Some other → int_eq other.at spot.at ≡ true → IsNoted notes spot
  noted_by notes spot other found same =
      λ f all.
      let P : Note → Type 0 = λ (note : Note). (f note.cells note.at ≡ false) × (same_cells spot.cells note.cells ≡ true) in
      let own : IfSome (note_of spot.cells spot.at notes) P =
      latest_every Last (λ (note : Note). note.at) P (filter (λ (note : Note). same_cells spot.cells note.cells && int_le note.at spot.at) notes)
      (every_both (λ (note : Note). f note.cells note.at ≡ false) (λ (note : Note). (same_cells spot.cells note.cells && int_le note.at spot.at) ≡ true) P (filter (λ (note : Note). same_cells spot.cells note.cells && int_le note.at spot.at) notes)
      (λ note fails passes. (fails, (and_parts _ _ passes).0))
      (every-filter (λ (note : Note). f note.cells note.at ≡ false) (λ (note : Note). same_cells spot.cells note.cells && int_le note.at spot.at) notes all)
      (filter_passes (λ (note : Note). same_cells spot.cells note.cells && int_le note.at spot.at) notes)) in
      let its : P other = subst (λ o. IfSome o P) found own in
      ap₂ f ((signed_items spot.cells other.cells).0 its.1) (sym ((signed_Decides other.at spot.at).0 same)) ∙ its.0

  noted_now : (notes : List Note) (spot : Spot) → IsNoted (with_note (fresh_note pick members spot) notes) spot
  noted_now notes spot = by (note_of spot.cells spot.at notes) refl
    where
      by : (o : Option Note) → note_of spot.cells spot.at notes ≡ o → IsNoted (cond (is_noted o spot.at) notes (notes ++ fresh_note pick members spot ∷ [])) spot
      by None is = noted_last notes spot
      by (Some other) is = third (int_eq other.at spot.at) refl
        where
          third : (b : Bool) → int_eq other.at spot.at ≡ b → IsNoted (cond b notes (notes ++ fresh_note pick members spot ∷ [])) spot
          third true e = noted_by notes spot other is e
          third false e = noted_last notes spot

  noting_keeps : (spot : Spot) (notes : List Note) (spots : List Spot) → IsNoted notes spot → IsNoted (noting pick members notes spots) spot
  noting_keeps spot notes [] h = h
  noting_keeps spot notes (other ∷ spots) h = noting_keeps spot (with_note (fresh_note pick members other) notes) spots (noted_kept (fresh_note pick members other) notes spot h)

  -- each place is noted
  pub noting_all : (notes : List Note) (spots : List Spot) → AllByRecursion (IsNoted (noting pick members notes spots)) spots
  noting_all notes [] = tt
  noting_all notes (spot ∷ spots) = (
    noting_keeps spot (with_note (fresh_note pick members spot) notes) spots (noted_now notes spot),
    noting_all (with_note (fresh_note pick members spot) notes) spots,
  )

-- there are no more notes than places
pub noting_few : (pick : Pick) (members : List Member) (notes : List Note) (spots : List Spot) → length (noting pick members notes spots) ≤ length notes + length spots
noting_few pick members notes [] = omega arith
noting_few pick members notes (spot ∷ spots) = omega (arith, noting_few pick members (with_note (fresh_note pick members spot) notes) spots, one)
  where
    one : length (with_note (fresh_note pick members spot) notes) ≤ length notes + 1
    one = elim (is_noted (note_of spot.cells spot.at notes) spot.at) as (λ b. length (cond b notes (notes ++ (fresh_note pick members spot) ∷ [])) ≤ length notes + 1) [ true ↦ omega arith | false ↦ omega (arith, length-append notes ((fresh_note pick members spot) ∷ [])) ]

module _ (on : List OnPair) (pick : Pick) (t : Ticking) (e : IsExact t) where
  abbrev notes : List Note
  notes = step_notes on pick t

  abbrev olds : List Spot
  olds = map (spot_at on pick t.old.rows) t.update.removed

  abbrev changes : List Spot
  changes = flat_map (λ (pair : KeyPair). spot_at on pick t.old.rows pair.old ∷ spot_at on pick t.new.rows pair.new ∷ []) (modified_pairs t)

  abbrev news : List Spot
  news = map (spot_at on pick t.new.rows) t.update.added

  all_noted : AllByRecursion (IsNoted notes) (olds ++ (changes ++ news))
  all_noted = noting_all pick (keyed Right on pick t.old.rows) [] (touched_spots on pick t.old.rows t.new.rows t.update (modified_pairs t))

  -- as many as the rows that the step touches, with the modified ones twice
  notes_few : length notes ≤ length t.update.removed + length t.update.added + 2 * length (modified_pairs t)
  notes_few =
      omega (
        arith,
        noting_few pick (keyed Right on pick t.old.rows) [] (touched_spots on pick t.old.rows t.new.rows t.update (modified_pairs t)),
        length-append olds (changes ++ news),
        length-append changes news,
        length-map t.update.removed (spot_at on pick t.old.rows),
        length-map t.update.added (spot_at on pick t.new.rows),
        two_each (modified_pairs t),
      )
    where
      two_each : (pairs : List KeyPair) → length (flat_map (λ (pair : KeyPair). spot_at on pick t.old.rows pair.old ∷ spot_at on pick t.new.rows pair.new ∷ []) pairs) ≡ 2 * length pairs
      two_each [] = omega arith
      two_each (pair ∷ pairs) = omega (arith, two_each pairs)

  pub told_few : (left : Ticking) → length (told_notes on pick left t) ≤ length t.update.removed + length t.update.added + 2 * length (modified_pairs t)
  told_few left = elim (length (keys left.old.rows) == 0) as (λ b. length (cond b [] notes) ≤ length t.update.removed + length t.update.added + 2 * length (modified_pairs t)) [ true ↦ omega arith | false ↦ notes_few ]

  pub told_all : (left : Ticking) → HasRow left.old → told_notes on pick left t ≡ notes
  told_all left some = ap (λ b. cond b [] notes) some

  -- a test of key cells and times that fails at all notes fails at each touched row
  pub quiet : (take : List ℕ) (cells : List ℤ) (f : List ℤ → ℤ → Bool) (test : List ℤ → Bool) → ((rows : List ℤ) → test rows ≡ f (key_cells Right on rows) (time_of Right pick rows)) → AllByRecursion (λ (note : Note). f note.cells note.at ≡ false) notes → IsQuiet on pick take cells t e test
  quiet take cells f test is none = record {
    gone = every_weaker (λ key. IsNoted notes (spot_at on pick t.old.rows key)) (λ key. test (cells_at key t.old.rows) ≡ false) t.update.removed (λ key noted. is (cells_at key t.old.rows) ∙ noted f none)
        (every_unmapped (IsNoted notes) (spot_at on pick t.old.rows) t.update.removed (every_front (IsNoted notes) olds (changes ++ news) all_noted));
    came = every_weaker (λ key. IsNoted notes (spot_at on pick t.new.rows key)) (λ key. test (cells_at key t.new.rows) ≡ false) t.update.added (λ key noted. is (cells_at key t.new.rows) ∙ noted f none)
        (every_unmapped (IsNoted notes) (spot_at on pick t.new.rows) t.update.added (every_back (IsNoted notes) changes news (every_back (IsNoted notes) olds (changes ++ news) all_noted)));
    changed = every_weaker (λ (pair : KeyPair). IsNoted notes (spot_at on pick t.old.rows pair.old) × IsNoted notes (spot_at on pick t.new.rows pair.new)) (FailsBoth t e test) (modified_pairs t)
        (λ pair noted. (is (cells_at pair.old t.old.rows) ∙ noted.0 f none, is (cells_at pair.new t.new.rows) ∙ noted.1 f none))
        (every_two (IsNoted notes) (λ (pair : KeyPair). spot_at on pick t.old.rows pair.old) (λ (pair : KeyPair). spot_at on pick t.new.rows pair.new) (modified_pairs t) (every_front (IsNoted notes) changes news (every_back (IsNoted notes) olds (changes ++ news) all_noted)));
  }
