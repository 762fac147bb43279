-- The snapshots that callers keep.
--     AreTaken run caller call all      the calls of a caller, from this one on, took whole tables
--     AreTried run attempts caller call seen looks all      they made their attempts, and looked at the clock for each, one after the other
--     IsReader store attempts caller calls reader      the caller has kept the snapshots of so many calls, whose steps never fall, nor pass what it has seen
--     HasRead store attempts caller calls reader      so it is, unless memory ran out
--     HasEnded store attempts caller snaps step reader      so it is after the last call too, whose snapshot is not older than this step
--     AreLast run snaps last caller all      what all have kept in the end: each caller's steps never fall, and end with the last good step
--     IsTaking attempts taken      no more attempts were made than may be, and the turn was taken only after all of them
--     AreTaking attempts all      so each snapshot was taken that is kept
--     EachReader P readers      what holds of each, with its number
use Rattle.std.{specs.Prelude.{◌≡◌, ℕ, ◌+◌, ◌%◌, ◌<◌, ◌≤◌, ◌++◌, List, [], ◌∷◌, true, false, length, map, slice_index, slice_index_or}, specs.List.AllByRecursion}
use Rattle.snapshot_store.{specs.Answers.IsSnapshot, specs.Lines.count, specs.Looks.latest, specs.declared.answers.Taken.Taken, specs.Models.{CallerModel, IsOf, StoreModel}}
use Rattle.tick_laws.specs.Reached.{IsReached}
use Rattle.tick_model.{specs.declared.feed.Run.Run, specs.declared.plan.Published.Published, specs.Choices.{IsCalls, NeverFalls}, specs.Words.line}
use Rattle.replay.{specs.declared.readers.KeptSnapshot.KeptSnapshot, specs.declared.readers.Reader.Reader}

-- the calls go through the published tables in turn
abbrev pub table_number : Run → ℕ → ℕ → ℕ
table_number run caller call = (caller + call) % count run

abbrev pub AreTaken : Run → ℕ → ℕ → List KeptSnapshot → Type 0
AreTaken run caller call [] = Unit {0}
AreTaken run caller call (kept ∷ others) = (kept.words ≡ line run kept.taken.step (table_number run caller call)) × AreTaken run caller (call + 1) others

-- Each call is a snapshot, of at most so many attempts before the turn is taken. The looks of a call come after those of the calls before it, and all are among these.
abbrev pub AreTried : Run → ℕ → ℕ → ℕ → List ℕ → List ℕ → List KeptSnapshot → Type 0
AreTried run attempts caller call seen looks [] = (rest : List ℕ) × (looks ≡ seen ++ rest)
AreTried run attempts caller call seen looks (kept ∷ others) = (before : CallerModel) × (after : CallerModel) × (between : List ℕ) × (before.looks ≡ seen ++ between)
    × IsSnapshot run (table_number run caller call) attempts before after kept.taken × AreTried run attempts caller (call + 1) after.looks looks others

abbrev pub steps_of : List KeptSnapshot → List ℕ
steps_of = map (λ kept. kept.taken.step)

pub record HasKept (run : Run) (caller calls seen : ℕ) (all : List KeptSnapshot) : Type 0 where
  pub count_is : length all ≡ calls
  pub taken : AreTaken run caller 0 all
  pub never_falls : NeverFalls (steps_of all)
  pub none_past : AllByRecursion (λ step. step ≤ seen) (steps_of all)

pub record IsReader (store : StoreModel) (attempts caller calls : ℕ) (reader : Reader) : Type 0 where
  pub own : IsOf store reader.caller.table reader.caller.run
  pub kept_are : HasKept store.run caller calls (latest reader.caller.looks) reader.kept
  pub tried : AreTried store.run attempts caller 0 [] reader.caller.looks reader.kept

pub record HasRead (store : StoreModel) (attempts caller calls : ℕ) (reader : Reader) : Type 0 where
  pub own : IsOf store reader.caller.table reader.caller.run
  pub unless_short : reader.short ≡ false → IsReader store attempts caller calls reader

pub record HasEnded (store : StoreModel) (attempts caller snaps step : ℕ) (reader : Reader) : Type 0 where
  pub is : IsReader store attempts caller (snaps + 1) reader
  pub last_is : step ≤ slice_index (steps_of reader.kept) snaps

abbrev pub EachReader : (ℕ → Reader → Type 0) → List Reader → Type 0
EachReader P readers = (i : ℕ) (d : Reader) → i < length readers → P i (slice_index_or readers i d)

-- one of the attempts that may be made took the table, or the turn after all of them
pub record IsTaking (attempts : ℕ) (taken : Taken) : Type 0 where
  pub few : taken.tries ≤ attempts
  pub locked : taken.locked ≡ true → taken.tries ≡ attempts
  pub unlocked : taken.locked ≡ false → 0 < taken.tries

abbrev pub AreTaking : ℕ → List (List KeptSnapshot) → Type 0
AreTaking attempts = AllByRecursion (AllByRecursion (λ kept. IsTaking attempts kept.taken))

-- without a published table there is nothing to call for
abbrev pub callers_of : List Published → ℕ → ℕ
callers_of [] callers = 0
callers_of (table ∷ tables) callers = callers

-- what each caller has kept in the end: whole tables, whose steps never fall, are not past the last good one, and end with it
pub record IsLastOf (run : Run) (snaps last caller : ℕ) (kept : List KeptSnapshot) : Type 0 where
  pub taken : AreTaken run caller 0 kept
  pub reached : AllByRecursion (λ snapshot. IsReached run snapshot.taken.step) kept
  pub calls : IsCalls snaps last (steps_of kept)

abbrev pub AreLast : Run → ℕ → ℕ → ℕ → List (List KeptSnapshot) → Type 0
AreLast run snaps last caller [] = Unit {0}
AreLast run snaps last caller (kept ∷ others) = IsLastOf run snaps last caller kept × AreLast run snaps last (caller + 1) others

abbrev pub all_steps : List (List KeptSnapshot) → List (List ℕ)
all_steps = map steps_of
