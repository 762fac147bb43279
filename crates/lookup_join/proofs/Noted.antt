-- A note tells what was taken before a step, until a right row of now came after it.
use Rattle.std.proofs.Common.{◌≡◌, refl, ap, sym, ◌∙◌, subst, Bool, true, false, cond, ◌&&◌, arith, List, [], ◌∷◌, filter, Option, Some, None, ℤ, ℕ, true≢false}
use Rattle.std.{specs.Prelude.{int_le, int_lt, IfSome}, specs.Cmp.Rules.signed_items, specs.List.AllByRecursion, proofs.lemmas.Bool.and_parts, proofs.lemmas.Int.ints}
use Rattle.key_lists.proofs.Every.{every_both, every_weaker, every-filter, filter_passes}
use Rattle.lookup_join.{specs.declared.pick.Pick.Pick, specs.declared.pick.Pick.TheVariants.Last, specs.Latest.{beats, latest_by, or_later}, specs.Notes.{Note, note_of}, specs.Taken.{step_notes, taken_cells}, proofs.Latests.latest_first, proofs.Noting.quiet, proofs.Picks.{left_no_later, picked_no_earlier}, proofs.Spans.{between, latest_every}, proofs.Stays.{IsQuiet, before_then, late, own, stays_late, time}, proofs.Taking.{IsOwn, latest_none, notes_own}}
use Rattle.tick_model.{specs.declared.plan.OnPair.OnPair, specs.Tables.same_cells}
use Rattle.tick_table.{specs.Exact.IsExact, specs.Ticking.Ticking}

itself : (a : ℤ) → int_lt a a ≡ false
itself a = grind (arith, ints)

above_too : (a b d : ℤ) → int_lt a b ≡ false → int_lt b d ≡ false → int_lt a d ≡ false
above_too a b d e f = grind (arith, ints)

-- none of those that pass is later than the latest
latest_above : {X : Type 0} (pick : Pick) (time : X → ℤ) (p : X → Bool) (xs : List X) (best : X) → latest_by pick time (filter p xs) ≡ Some best → AllByRecursion (λ x. p x ≡ true → int_lt (time best) (time x) ≡ false) xs
latest_above pick time p [] best e = tt
latest_above {X = X} pick time p (x ∷ xs) best e = by (p x) refl (sym (latest_first pick time p x xs) ∙ e) (latest_by pick time (filter p xs)) refl (latest_above pick time p xs)
  where
    Above : X → X → Type 0
    Above best x = p x ≡ true → int_lt (time best) (time x) ≡ false

    same : {x y : X} → Some x ≡ Some y → x ≡ y
    same {x = x} {y = y} e = cc

    with_first : (o : Option X) → latest_by pick time (filter p xs) ≡ o → or_later pick time x o ≡ Some best → ((best : X) → latest_by pick time (filter p xs) ≡ Some best → AllByRecursion (Above best) xs) → AllByRecursion (Above best) (x ∷ xs)
    with_first None is f rest = (
      λ passes. subst (λ y. int_lt (time y) (time x) ≡ false) (same f) (itself (time x)),
      every_weaker (λ y. p y ≡ false) (Above best) xs (λ y fails passes. absurd (true≢false (sym passes ∙ fails))) (latest_none pick time p xs is),
    )
    with_first (Some last) is f rest = third (beats pick (time last) (time x)) refl f
      where
        third : (c : Bool) → beats pick (time last) (time x) ≡ c → cond c (Some x) (Some last) ≡ Some best → AllByRecursion (Above best) (x ∷ xs)
        third true g h = (
          λ passes. subst (λ y. int_lt (time y) (time x) ≡ false) (same h) (itself (time x)),
          every_weaker (Above last) (Above best) xs (λ y above passes. subst (λ z. int_lt (time z) (time y) ≡ false) (same h) (above_too (time x) (time last) (time y) (picked_no_earlier pick (time last) (time x) g) (above passes))) (rest last is),
        )
        third false g h = (
          λ passes. subst (λ z. int_lt (time z) (time x) ≡ false) (same h) (left_no_later pick (time last) (time x) g),
          subst (λ z. AllByRecursion (Above z) xs) (same h) (rest last is),
        )

    by : (b : Bool) → p x ≡ b → cond b (or_later pick time x (latest_by pick time (filter p xs))) (latest_by pick time (filter p xs)) ≡ Some best → (o : Option X) → latest_by pick time (filter p xs) ≡ o → ((best : X) → latest_by pick time (filter p xs) ≡ Some best → AllByRecursion (Above best) xs) → AllByRecursion (Above best) (x ∷ xs)
    by true is f o at rest = with_first o at (ap (or_later pick time x) (sym at) ∙ f) rest
    by false is f o at rest = (λ passes. absurd (true≢false (sym passes ∙ is)), rest best f)

module _ (on : List OnPair) (pick : Pick) (t : Ticking) (e : IsExact t) where
  abbrev notes : List Note
  notes = step_notes on pick t

  -- a note that is found is of these key cells, is not later, and is right
  pub found_own : (cells : List ℤ) (until : ℤ) (note : Note) → note_of cells until notes ≡ Some note → IsOwn on pick t e note × ((note.cells ≡ cells) × (int_le note.at until ≡ true))
  found_own cells until note found =
      subst (λ o. IfSome o (λ note. IsOwn on pick t e note × ((note.cells ≡ cells) × (int_le note.at until ≡ true)))) found
      (latest_every Last (λ (note : Note). note.at) (λ note. IsOwn on pick t e note × ((note.cells ≡ cells) × (int_le note.at until ≡ true))) (filter (λ (note : Note). same_cells cells note.cells && int_le note.at until) notes)
      (every_both (IsOwn on pick t e) (λ (note : Note). (same_cells cells note.cells && int_le note.at until) ≡ true) (λ note. IsOwn on pick t e note × ((note.cells ≡ cells) × (int_le note.at until ≡ true))) (filter (λ (note : Note). same_cells cells note.cells && int_le note.at until) notes)
      (λ note right passes. (right, (sym ((signed_items cells note.cells).0 (and_parts _ _ passes).0), (and_parts _ _ passes).1)))
      (every-filter (IsOwn on pick t e) (λ (note : Note). same_cells cells note.cells && int_le note.at until) notes (notes_own on pick t e))
      (filter_passes (λ (note : Note). same_cells cells note.cells && int_le note.at until) notes)))

  -- after a note that is the latest until a time, there is no other of these key cells until then
  pub notes_clear : (cells : List ℤ) (until : ℤ) (note : Note) → note_of cells until notes ≡ Some note → AllByRecursion (λ (other : Note). (same_cells cells other.cells && (int_lt note.at other.at && int_le other.at until)) ≡ false) notes
  notes_clear cells until note found =
      every_weaker (λ (other : Note). (same_cells cells other.cells && int_le other.at until) ≡ true → int_lt note.at other.at ≡ false) (λ (other : Note). (same_cells cells other.cells && (int_lt note.at other.at && int_le other.at until)) ≡ false) notes
      (λ other above. none (same_cells cells other.cells) (int_lt note.at other.at) (int_le other.at until) above)
      (latest_above Last (λ (note : Note). note.at) (λ (other : Note). same_cells cells other.cells && int_le other.at until) notes note found)
    where
      none : (a b c : Bool) → ((a && c) ≡ true → b ≡ false) → (a && (b && c)) ≡ false
      none false b c h = refl
      none true false c h = refl
      none true true false h = refl
      none true true true h = absurd (true≢false (h refl))

  -- so no row is touched until then
  pub quiet_after : (take : List ℕ) (cells : List ℤ) (until : ℤ) (note : Note) → note_of cells until notes ≡ Some note → IsQuiet on pick take cells t e (between (time on pick take cells) (own on pick take cells) note.at until)
  quiet_after take cells until note found =
      quiet on pick t e take cells (λ group moment. same_cells cells group && (int_lt note.at moment && int_le moment until)) (between (time on pick take cells) (own on pick take cells) note.at until) (λ row. refl) (notes_clear cells until note found)

  -- where a right row of now came after the note, what is taken stays
  pub noted_stays : (take : List ℕ) (cells : List ℤ) (until : ℤ) (note : Note) (row : List ℤ) → note_of cells until notes ≡ Some note → late on pick take cells note.at until t.new.rows ≡ Some row → taken_cells on pick take t.old.rows cells until ≡ taken_cells on pick take t.new.rows cells until
  noted_stays take cells until note row found some = stays_late on pick take cells t e note.at until row (found_own cells until note found).1.1 (quiet_after take cells until note found) some

  -- where none did, it was what was taken at the note
  pub noted_then : (take : List ℕ) (cells : List ℤ) (until : ℤ) (note : Note) → note_of cells until notes ≡ Some note → late on pick take cells note.at until t.new.rows ≡ None → taken_cells on pick take t.old.rows cells until ≡ taken_cells on pick take t.old.rows cells note.at
  noted_then take cells until note found none = before_then on pick take cells t e note.at until (found_own cells until note found).1.1 (quiet_after take cells until note found) none
