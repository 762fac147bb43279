-- The callers and what they have kept, as lists.
use Rattle.std.proofs.Common.{◌≡◌, refl, sym, ap, ◌∙◌, subst, Bool, true, false, ℕ, zero, suc, ◌+◌, ◌<◌, ◌≤◌, ◌++◌, arith, length, List, [], ◌∷◌, take, drop, get_or}
use Rattle.std.{specs.Prelude.{map, slice_index}, specs.List.{All, AllByRecursion}, proofs.lemmas.List.{append-nil, drop_all, take_all}}
use Rattle.key_lists.{proofs.Every.every_weaker, proofs.Parts.every_at}
use Rattle.snapshot_store.{specs.Answers.IsSnapshot, specs.declared.answers.Taken.Taken, specs.Looks.latest, specs.Models.{CallerModel, IsNewCaller, IsOf, StoreModel}}
use Rattle.tick_laws.{specs.Reached.IsReached, proofs.RunTicks.reached_before}
use Rattle.tick_model.{specs.declared.feed.Run.Run, specs.Choices.IsCalls}
use Rattle.replay.{specs.declared.readers.KeptSnapshot.KeptSnapshot, specs.declared.readers.Reader.Reader, specs.Snapshots.{AreLast, AreTaking, AreTried, EachReader, HasEnded, HasKept, IsLastOf, IsReader, IsTaking, steps_of, table_number}}

-- a caller that has kept nothing
pub record IsNewReader (store : StoreModel) (reader : Reader) : Type 0 where
  pub new : IsNewCaller store reader.caller
  pub nothing : reader.kept ≡ []

pub new_is_reader : (store : StoreModel) (attempts caller : ℕ) (reader : Reader) → IsNewReader store reader → IsReader store attempts caller 0 reader
new_is_reader store attempts caller reader is = record {
  own = (is.new.0, is.new.1);
  kept_are = subst (HasKept store.run caller 0 (latest reader.caller.looks)) (sym is.nothing) (record { count_is = refl; taken = tt; never_falls = tt; none_past = tt });
  tried = subst (AreTried store.run attempts caller 0 [] reader.caller.looks) (sym is.nothing) (reader.caller.looks, refl);
}

-- a slice that is all of a list, written back
pub written_back : {X : Type 0} (n : ℕ) (new old : List X) → length new ≡ length old → n ≡ length old → take n (new ++ drop (length new) old) ≡ new
written_back n new old same all =
    ap (λ rest. take n (new ++ rest)) (drop_all (length new) old (omega (arith, same))) ∙ ap (take n) (append-nil new) ∙ take_all n new (omega (arith, same, all))

-- the callers of readers are the store's
owned : (store : StoreModel) (readers : List Reader) → EachReader (λ i reader. IsOf store reader.caller.table reader.caller.run) readers → All (λ (c : CallerModel). IsOf store c.table c.run) (map (λ (reader : Reader). reader.caller) readers)
owned store [] each k d less = absurd (omega (arith, less))
owned store (reader ∷ others) each zero d less = each 0 reader (omega arith)
owned store (reader ∷ others) each (suc k) d less = owned store others (λ i e within. each (suc i) e (omega (arith, within))) k d (omega (arith, less))

pub callers_owned : (store : StoreModel) (attempts snaps step : ℕ) (readers : List Reader) → EachReader (λ i. HasEnded store attempts i snaps step) readers → (callers : List CallerModel) → callers ≡ map (λ (reader : Reader). reader.caller) readers
    → All (λ (c : CallerModel). IsOf store c.table c.run) callers
callers_owned store attempts snaps step readers each callers are =
    subst (All (λ (c : CallerModel). IsOf store c.table c.run)) (sym are) (owned store readers (λ i d less. (each i d less).is.own))

-- how each call took its table
pub taking : (attempts : ℕ) (run : Run) (number : ℕ) (before after : CallerModel) (taken : Taken) → IsSnapshot run number attempts before after taken → IsTaking attempts taken
taking attempts run number before after taken is = record { few = few taken.locked refl; locked = λ has. (is.locked has).1; unlocked = λ free. omega (arith, (is.unlocked free).0) }
  where
    few : (locked : Bool) → taken.locked ≡ locked → taken.tries ≤ attempts
    few true has = omega (arith, (is.locked has).1)
    few false free = (is.unlocked free).1

each_taking : (run : Run) (attempts caller call : ℕ) (seen looks : List ℕ) (all : List KeptSnapshot) → AreTried run attempts caller call seen looks all → AllByRecursion (λ kept. IsTaking attempts kept.taken) all
each_taking run attempts caller call seen looks [] tried = tt
each_taking run attempts caller call seen looks (kept ∷ others) tried =
    (taking attempts run (table_number run caller call) tried.0 tried.1 kept.taken tried.4, each_taking run attempts caller (call + 1) tried.1.looks looks others tried.5)

of_each : (P : List KeptSnapshot → Type 0) (readers : List Reader) → EachReader (λ i reader. P reader.kept) readers → AllByRecursion P (map (λ (reader : Reader). reader.kept) readers)
of_each P [] each = tt
of_each P (reader ∷ others) each = (each 0 reader (omega arith), of_each P others (λ i d less. each (suc i) d (omega (arith, less))))

pub all_taking : (store : StoreModel) (attempts snaps step : ℕ) (readers : List Reader) → EachReader (λ i. HasEnded store attempts i snaps step) readers
    → AreTaking attempts (map (λ (reader : Reader). reader.kept) readers)
all_taking store attempts snaps step readers each = of_each (AllByRecursion (λ (kept : KeptSnapshot). IsTaking attempts kept.taken)) readers
    (λ i d less. each_taking store.run attempts i 0 [] _ _ (each i d less).is.tried)

module _ (run : Run) (snaps last : ℕ) (reached : IsReached run last) where
  -- what a caller has kept, where it has seen no later step and its last snapshot is not earlier
  ends : (caller : ℕ) (kept : List KeptSnapshot) (seen : ℕ) → HasKept run caller (snaps + 1) seen kept → seen ≤ last → last ≤ slice_index (steps_of kept) snaps → IsLastOf run snaps last caller kept
  ends caller kept seen has within late =
      let none_past = every_weaker (λ step. step ≤ seen) (λ step. step ≤ last) (steps_of kept) (λ step below. omega (arith, below, within)) has.none_past in
      record {
        taken = has.taken;
        reached = unmapped kept none_past;
        calls = record {
          count = length_steps kept ∙ has.count_is;
          never_falls = has.never_falls;
          none_past = none_past;
          ends =
              let early : slice_index (steps_of kept) snaps ≤ last = every_at (λ step. step ≤ last) (steps_of kept) snaps 0 (omega (arith, length_steps kept, has.count_is)) none_past in
              omega (arith, early, late);
        };
      }
    where
      length_steps : (kept : List KeptSnapshot) → length (steps_of kept) ≡ length kept
      length_steps [] = refl
      length_steps (k ∷ others) = ap suc (length_steps others)

      unmapped : (kept : List KeptSnapshot) → AllByRecursion (λ step. step ≤ last) (steps_of kept) → AllByRecursion (λ snapshot. IsReached run snapshot.taken.step) kept
      unmapped [] all = tt
      unmapped (k ∷ others) all = (reached_before run k.taken.step last all.0 reached, unmapped others all.1)

  pub all_end : (store : StoreModel) (attempts step : ℕ) → store.run ≡ run → last ≤ step → (caller : ℕ) (readers : List Reader) → ((i : ℕ) (d : Reader) → i < length readers → HasEnded store attempts (caller + i) snaps step (get_or readers i d))
      → All (λ (c : CallerModel). latest c.looks ≤ last) (map (λ (reader : Reader). reader.caller) readers) → AreLast run snaps last caller (map (λ (reader : Reader). reader.kept) readers)
  all_end store attempts step same late caller [] each seen = tt
  all_end store attempts step same late caller (reader ∷ others) each seen =
      let first : HasEnded store attempts caller snaps step reader = let e : caller + 0 ≡ caller = omega arith in subst (λ n. HasEnded store attempts n snaps step reader) e (each 0 reader (omega arith)) in (
        ends caller reader.kept (latest reader.caller.looks) (subst (λ r. HasKept r caller (snaps + 1) (latest reader.caller.looks) reader.kept) same first.is.kept_are) (seen 0 reader.caller (omega arith)) (omega (arith, late, first.last_is)),
        all_end store attempts step same late (caller + 1) others
            (λ i d less. let e : caller + suc i ≡ caller + 1 + i = omega arith in subst (λ n. HasEnded store attempts n snaps step (get_or others i d)) e (each (suc i) d (omega (arith, less)))) (λ k d less. seen (suc k) d (omega (arith, less))),
      )
