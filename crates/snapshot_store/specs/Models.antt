-- What contracts see of a store, its writer, its callers and its notes, and what holds of each.
use Rattle.std.specs.Prelude.{◌≡◌, ℕ, ◌+◌, ◌*◌, ◌^◌, ◌<◌, ◌≤◌, List, [], length, true, false, slice_index, Option, Some}
use Rattle.atomic_table.{specs.Seated.TableId, specs.declared.shared.Seat.Seat}
use Rattle.tick_model.{specs.Clock.{idle, updating, completed}, specs.LawfulRuns.IsLawfulRun, specs.declared.feed.Run.Run, specs.declared.plan.Published.Published}
use Rattle.snapshot_store.{specs.declared.board.StoreView.StoreView, specs.declared.board.Doing.TheVariants.{Rest, Writing}, specs.declared.writers.Phase.Phase, specs.declared.writers.Phase.TheVariants.{Idle, Begun, Stopped, Left}, specs.Lines.{below, count, size, size_in, start_in, total, total_in, line_of, IsWhole}, specs.Looks.{NeverFalls, last_or}}

-- which table of words, and whose run
pub record StoreModel : Type 0 where
  pub table : TableId
  pub run : Run

-- the clock values that a caller has looked at, in order, the words that it read last, and how often it was refused the turn
pub record CallerModel : Type 0 where
  pub table : TableId
  pub run : Option Run
  pub looks : List ℕ
  pub words : List ℕ
  pub refusals : ℕ

-- the last completed step, what the writer may do next, and how often it was refused the turn
pub record WriterModel : Type 0 where
  pub table : TableId
  pub run : Option Run
  pub step : ℕ
  pub phase : Phase
  pub refusals : ℕ

pub record NoteModel : Type 0 where
  pub table : TableId
  pub run : Option Run
  pub step : ℕ

-- a writer, a caller or a note is of the store that made it
abbrev pub IsOf : StoreModel → TableId → Option Run → Type 0
IsOf store table run = (table ≡ store.table) × (run ≡ Some store.run)

-- where the words of the published tables stand in a bank
pub record IsLaid (tables : List Published) (starts : List ℕ) (bank largest : ℕ) : Type 0 where
  pub as_many : length starts ≡ length tables
  pub each : (p : ℕ) → p < length tables → slice_index starts p ≡ start_in tables p
  pub all : bank ≡ total_in tables
  pub small : bank < 2 ^ 20
  pub most : (p : ℕ) → p < length tables → size_in tables p ≤ largest

abbrev pub Place : Type 0
Place = Seat (Unit {0}) StoreView

-- the words are as many as the run needs, and the run is lawful
pub record IsStore (table : TableId) (run : Run) (layout : List Published) : Type 0 where
  pub words : table.words ≡ 2 + 2 * total run
  pub slots : table.slots ≡ 0
  pub laid : layout ≡ run.plan.published
  pub lawful : IsLawfulRun run

-- a buffer has room for each published table
abbrev pub HasRoom : StoreView → ℕ → Type 0
HasRoom view capacity = (run : Run) (p : ℕ) → view.run ≡ Some run → p < count run → size run p ≤ capacity

-- a caller does nothing between calls, and `seen` is its last look, or 1
pub record IsCalling (place : Place) (seen capacity : ℕ) : Type 0 where
  pub rests : place.me.0.doing ≡ Rest
  pub free : place.me.0.turn ≡ false
  pub alone : place.me.1 ≡ []
  pub last : last_or 1 place.me.0.looks ≡ seen
  pub below_floor : seen ≤ place.me.0.floor
  pub started : 0 < seen
  pub rises : NeverFalls 1 place.me.0.looks
  pub room : HasRoom place.me.0 capacity

-- how many words the first p tables have at a step
abbrev pub words_of : Run → ℕ → ℕ → ℕ
words_of run step p = below (λ q. length (line_of run step q)) p

-- The clock is the writer's floor. It has the turn from `begin` to `finish` or `abandon`, and the tables that were put since are whole rows
abbrev pub IsPut : StoreView → ℕ → ℕ → Type 0
IsPut view step tables = (run : Run) × (view.run ≡ Some run) × (view.doing ≡ Writing step (words_of run (step + 1) tables)) × ((p : ℕ) → p < tables → IsWhole run (step + 1) p)

abbrev pub IsAt : StoreView → ℕ → Phase → Type 0
IsAt view step Idle = (view.floor ≡ idle step) × (view.turn ≡ false) × (view.doing ≡ Writing step 0)
IsAt view step (Begun tables) = (view.floor ≡ updating (step + 1)) × (view.turn ≡ true) × (step + 1 < 2 ^ 62) × IsPut view step tables
IsAt view step Stopped = (view.floor ≡ updating (step + 1)) × (view.turn ≡ true) × ((stored : ℕ) × (view.doing ≡ Writing step stored))
IsAt view step Left = (view.floor ≡ updating (step + 1)) × (view.turn ≡ false) × ((stored : ℕ) × (view.doing ≡ Writing step stored))

pub record IsWriting (place : Place) (step : ℕ) (phase : Phase) (capacity : ℕ) : Type 0 where
  pub alone : place.me.1 ≡ []
  pub small : step < 2 ^ 62
  pub at : IsAt place.me.0 step phase
  pub room : HasRoom place.me.0 capacity

pub record IsNoted (place : Place) (step : ℕ) : Type 0 where
  pub free : place.me.0.turn ≡ false
  pub alone : place.me.1 ≡ []
  pub completed_is : step ≤ completed place.me.0.floor

-- the seat is the same one
abbrev pub IsSamePlace : Place → Place → Type 0
IsSamePlace p q = (q.table_id ≡ p.table_id) × (q.id ≡ p.id) × (q.me.1 ≡ p.me.1)

-- a caller that has not looked yet
abbrev pub IsNewCaller : StoreModel → CallerModel → Type 0
IsNewCaller store caller = (caller.table ≡ store.table) × (caller.run ≡ Some store.run) × (caller.looks ≡ [])
