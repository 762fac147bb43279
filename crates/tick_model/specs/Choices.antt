-- The steps at which callers take snapshots.
--     IsChoice callers snaps last choice      each caller's steps never fall, none is past the last good step, and the last one is that step
use Rattle.std.{specs.Prelude.{◌≡◌, ℕ, ◌+◌, ◌≤◌, List, [], ◌∷◌, length, slice_index_or}, specs.List.AllByRecursion}

-- each is at most those after it
abbrev pub NeverFalls : List ℕ → Type 0
NeverFalls [] = Unit {0}
NeverFalls (step ∷ steps) = AllByRecursion (λ later. step ≤ later) steps × NeverFalls steps

-- the calls of one caller: so many beside the run, and one more after it
pub record IsCalls (snaps last : ℕ) (steps : List ℕ) : Type 0 where
  pub count : length steps ≡ snaps + 1
  pub never_falls : NeverFalls steps
  pub none_past : AllByRecursion (λ step. step ≤ last) steps
  pub ends : slice_index_or steps snaps 0 ≡ last

pub record IsChoice (callers snaps last : ℕ) (choice : List (List ℕ)) : Type 0 where
  pub count : length choice ≡ callers
  pub each : AllByRecursion (IsCalls snaps last) choice
