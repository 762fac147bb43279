-- The text of snapshots, one call and one caller after the other.
use Rattle.std.proofs.Common.{◌≡◌, refl, sym, ap, ◌∙◌, subst, ℕ, zero, suc, ◌+◌, ◌<◌, ◌≤◌, ◌++◌, append_assoc, arith, length, List, [], ◌∷◌, drop, get_or}
use Rattle.std.{specs.Prelude.{map, flat_map, slice_index, slice_index_or}, specs.List.AllByRecursion, proofs.lemmas.Grind.flat_map-append, proofs.lemmas.List.{at_drop_all, at_drop_more, get_or-map, length-map}}
use Rattle.key_lists.proofs.Parts.{every_at}
use Rattle.tick_laws.specs.Reached.{IsReached}
use Rattle.tick_model.{specs.declared.feed.Run.Run, specs.Texts.{calls_records, callers_records, record_text, records_text, snapshot_records}, specs.Words.line}
use Rattle.replay.{specs.declared.readers.KeptSnapshot.KeptSnapshot, specs.Snapshots.{AreLast, AreTaken, IsLastOf, all_steps, steps_of, table_number}}

module _ (run : Run) where
  -- what a caller's calls from one on print
  abbrev pub calls_text : ℕ → ℕ → List KeptSnapshot → List ℕ
  calls_text caller call kept = records_text (calls_records run caller call (steps_of kept))

  abbrev pub callers_text : ℕ → List (List KeptSnapshot) → List ℕ
  callers_text caller all = records_text (callers_records run caller (all_steps all))

  taken_at : (d : KeptSnapshot) (caller : ℕ) (kept : List KeptSnapshot) (i call : ℕ) → i < length kept → AreTaken run caller call kept → (get_or kept i d).words ≡ line run (get_or kept i d).taken.step (table_number run caller (call + i))
  taken_at d caller [] i call less taken = absurd (omega (arith, less))
  taken_at d caller (first ∷ others) zero call less taken =
      let same : call ≡ call + 0 = omega arith in
      taken.0 ∙ ap (λ n. line run first.taken.step (table_number run caller n)) same
  taken_at d caller (first ∷ others) (suc i) call less taken =
      let same : call + 1 + i ≡ call + suc i = omega arith in
      taken_at d caller others i (call + 1) (omega (arith, less)) taken.1 ∙ ap (λ n. line run (get_or others i d).taken.step (table_number run caller n)) same

  module _ (caller i : ℕ) (kept : List KeptSnapshot) (snapshot : KeptSnapshot) (less : i < length kept) (is : snapshot ≡ get_or kept i snapshot) where
    pub call_next : calls_text caller i (drop i kept) ≡ records_text (snapshot_records run caller i snapshot.taken.step) ++ calls_text caller (i + 1) (drop (i + 1) kept)
    call_next =
        at_drop_more (calls_text caller i) kept i snapshot less
        ∙ ap (λ (k : KeptSnapshot). calls_text caller i (k ∷ drop (i + 1) kept)) (sym is)
        ∙ flat_map-append record_text (snapshot_records run caller i snapshot.taken.step) (calls_records run caller (i + 1) (steps_of (drop (i + 1) kept)))

    pub call_taken : AreTaken run caller 0 kept → snapshot.words ≡ line run snapshot.taken.step (table_number run caller i)
    call_taken taken =
        let same : 0 + i ≡ i = omega arith in
        subst (λ (k : KeptSnapshot). k.words ≡ line run k.taken.step (table_number run caller i)) (sym is)
        (taken_at snapshot caller kept i 0 less taken ∙ ap (λ n. line run (get_or kept i snapshot).taken.step (table_number run caller n)) same)

    pub call_reached : AllByRecursion (λ (k : KeptSnapshot). IsReached run k.taken.step) kept → IsReached run snapshot.taken.step
    call_reached all = subst (λ (k : KeptSnapshot). IsReached run k.taken.step) (sym is) (every_at (λ (k : KeptSnapshot). IsReached run k.taken.step) kept i snapshot less all)

  pub calls_end : (caller call i : ℕ) (kept : List KeptSnapshot) → length kept ≤ i → calls_text caller call (drop i kept) ≡ []
  calls_end caller call i kept past = at_drop_all (calls_text caller call) kept i past

  last_at : (snaps last caller i : ℕ) (all : List (List KeptSnapshot)) (d : List KeptSnapshot) → i < length all → AreLast run snaps last caller all → IsLastOf run snaps last (caller + i) (get_or all i d)
  last_at snaps last caller i [] d less ends = absurd (omega (arith, less))
  last_at snaps last caller zero (kept ∷ others) d less ends =
      let same : caller ≡ caller + 0 = omega arith in
      subst (λ n. IsLastOf run snaps last n kept) same ends.0
  last_at snaps last caller (suc i) (kept ∷ others) d less ends =
      let same : caller + 1 + i ≡ caller + suc i = omega arith in
      subst (λ n. IsLastOf run snaps last n (get_or others i d)) same (last_at snaps last (caller + 1) i others d (omega (arith, less)) ends.1)

  module _ (i : ℕ) (all : List (List KeptSnapshot)) (kept : List KeptSnapshot) (less : i < length all) (is : kept ≡ get_or all i kept) where
    pub caller_next : callers_text i (drop i all) ≡ calls_text i 0 kept ++ callers_text (i + 1) (drop (i + 1) all)
    caller_next =
        at_drop_more (callers_text i) all i kept less
        ∙ ap (λ (k : List KeptSnapshot). callers_text i (k ∷ drop (i + 1) all)) (sym is)
        ∙ flat_map-append record_text (calls_records run i 0 (steps_of kept)) (callers_records run (i + 1) (all_steps (drop (i + 1) all)))

    pub caller_ends : (snaps last : ℕ) → AreLast run snaps last 0 all → IsLastOf run snaps last i kept
    caller_ends snaps last ends =
        let same : 0 + i ≡ i = omega arith in
        subst (IsLastOf run snaps last i) (sym is) (subst (λ n. IsLastOf run snaps last n (get_or all i kept)) same (last_at snaps last 0 i all kept less ends))

  pub callers_end : (caller i : ℕ) (all : List (List KeptSnapshot)) → length all ≤ i → callers_text caller (drop i all) ≡ []
  callers_end caller i all past = at_drop_all (callers_text caller) all i past

-- one piece more of a text, of which the rest is still to come
pub comes_next : (done piece rest text whole : List ℕ) → done ++ text ≡ whole → text ≡ piece ++ rest → (done ++ piece) ++ rest ≡ whole
comes_next done piece rest text whole before next =
    append_assoc done piece rest ∙ ap (λ t. done ++ t) (sym next) ∙ before

-- a caller has kept one snapshot more than it takes beside the run
pub length_kept : (run : Run) (snaps last caller : ℕ) (kept : List KeptSnapshot) → IsLastOf run snaps last caller kept → length kept ≡ snaps + 1
length_kept run snaps last caller kept ends = sym (length-map kept (λ (k : KeptSnapshot). k.taken.step)) ∙ ends.calls.count
