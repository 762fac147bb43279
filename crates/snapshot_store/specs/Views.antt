-- What a seat knows, and what a step leaves of it.
use Rattle.std.specs.Prelude.{◌≡◌, ℕ, ◌<◌, ◌≤◌, List, [], ◌∷◌, ◌++◌, false, length, max, slice_index, Option, Some, None}
use Rattle.tick_model.{specs.Clock.completed, specs.declared.feed.Run.Run}
use Rattle.snapshot_store.{specs.declared.board.StoreView.StoreView, specs.declared.board.Doing.Doing, specs.declared.board.Doing.TheVariants.{Rest, Looked, Reading, Writing}}

-- the writer's view at the start
abbrev pub first_view : Run → StoreView
first_view run = record { run = Some run; looks = []; floor = 1; turn = false; refusals = 0; doing = Writing 0 0 }

-- the view of a new seat, which has seen the clock at `floor`
abbrev pub informed : Option Run → ℕ → StoreView
informed run floor = record { run = run; looks = []; floor = floor; turn = false; refusals = 0; doing = Rest }

-- the view of a seat that was joined to another
abbrev pub spent_view : StoreView
spent_view = informed None 0

-- what two views have seen
abbrev pub both_views : StoreView → StoreView → StoreView
both_views v w = record { run = v.run; looks = v.looks; floor = max v.floor w.floor; turn = v.turn; refusals = v.refusals; doing = v.doing }

-- neither a look nor a reading stands between two steps
abbrev pub IsQuiet : Doing → Type 0
IsQuiet Rest = Unit {0}
IsQuiet (Looked first) = ⊥
IsQuiet (Reading number first words) = ⊥
IsQuiet (Writing step stored) = Unit {0}

-- what neither a read nor a store changes
abbrev pub IsSameSight : StoreView → StoreView → Type 0
IsSameSight v w = (w.run ≡ v.run) × (w.looks ≡ v.looks) × (w.floor ≡ v.floor) × (w.turn ≡ v.turn) × (w.refusals ≡ v.refusals)

-- all but the turn, and how often it was refused, is as it was
abbrev pub IsSameBut : StoreView → StoreView → Type 0
IsSameBut v w = (w.run ≡ v.run) × (w.looks ≡ v.looks) × (w.floor ≡ v.floor) × (w.doing ≡ v.doing)

-- the clock was looked at, and found
abbrev pub IsLook : StoreView → ℕ → StoreView → Type 0
IsLook v found w = (w.run ≡ v.run) × (w.looks ≡ v.looks ++ found ∷ []) × (w.floor ≡ found) × (v.floor ≤ found) × (0 < found) × (w.turn ≡ v.turn) × (w.refusals ≡ v.refusals)

-- the clock was set, and nothing is stored since
abbrev pub IsTick : StoreView → ℕ → StoreView → Type 0
IsTick v value w = (w.run ≡ v.run) × (w.looks ≡ v.looks) × (w.floor ≡ value) × (w.doing ≡ Writing (completed value) 0) × (w.turn ≡ v.turn)

-- the words read begin the line
abbrev pub Begins : List ℕ → List ℕ → Type 0
Begins read line = (i : ℕ) → i < length read → (i < length line) × (slice_index read i ≡ slice_index line i)
