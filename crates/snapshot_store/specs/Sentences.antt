-- What the rule says, sentence by sentence.
use Rattle.std.{specs.Prelude.{◌≡◌, ℕ, ◌+◌, ◌-◌, ◌*◌, ◌<◌, ◌≤◌, List, true, length, slice_index}, specs.List.All}
use mathlib.Core.Option.{some}
use lib.ListN.{get_elem?}
use Rattle.atomic_table.specs.Table.{State}
use Rattle.tick_model.{specs.Clock.{idle, updating, completed}, specs.declared.feed.Run.Run}
use Rattle.snapshot_store.{specs.declared.board.StoreView.StoreView, specs.declared.board.Doing.TheVariants.{Looked, Reading, Writing}, specs.declared.writers.Phase.Phase, specs.declared.writers.Phase.TheVariants.{Idle, Begun, Stopped}, specs.Lines.{count, limit, width, spot, line_of}, specs.Models.IsAt, specs.Rule.{Holds, Stored}, specs.Views.Begins}

-- the words and the views
abbrev pub Board : Type 0
Board = State (Unit {0}) StoreView

abbrev pub clock : Board → ℕ
clock board = slice_index board.words 0

abbrev pub turn : Board → ℕ
turn board = slice_index board.words 1

-- what holds of the view of each seat
abbrev pub OfEach : Board → (StoreView → Type 0) → Type 0
OfEach board P = (seat : ℕ) (view : StoreView) → get_elem? board.views seat ≡ some view → P view

-- the clock is at least every look and every floor, and it is the floor of the writer
abbrev pub IsPastLooks : Board → Type 0
IsPastLooks board = (0 < clock board) × OfEach board (λ view. (view.floor ≤ clock board) × All (λ look. look ≤ clock board) view.looks)

abbrev pub IsFloorOfWriter : Board → Type 0
IsFloorOfWriter board = OfEach board (λ view. (step stored : ℕ) → view.doing ≡ Writing step stored → (view.floor ≡ clock board) × (completed (clock board) ≡ step))

-- what the clock is while the writer may do this next, and that a step is under way
abbrev pub clock_at : ℕ → Phase → ℕ
clock_at step Idle = idle step
clock_at step phase = updating (step + 1)

abbrev pub IsUnderWay : Phase → Type 0
IsUnderWay (Begun tables) = Unit {0}
IsUnderWay Stopped = Unit {0}
IsUnderWay phase = ⊥

-- what holds of the view of a writer, after whatever call
abbrev pub OfWriter : Board → (StoreView → ℕ → Phase → Type 0) → Type 0
OfWriter board P = OfEach board (λ view. (step : ℕ) (phase : Phase) → IsAt view step phase → P view step phase)

abbrev pub IsClockOfWriter : Board → Type 0
IsClockOfWriter board = OfWriter board (λ view step phase. clock board ≡ clock_at step phase)

-- when idle after a step, its bank holds it, and the other one holds the step before
abbrev pub HoldsBoth : Run → Board → Type 0
HoldsBoth run board = (step : ℕ) → clock board ≡ idle step → Holds run board.words step × (1 ≤ step → Holds run board.words (step - 1))

-- while a step is updating, the bank of the one before holds it, and the other one has what the writer has stored
abbrev pub HoldsOne : Run → Board → Type 0
HoldsOne run board = (step : ℕ) → clock board ≡ updating (step + 1) → Holds run board.words step × OfEach board (λ view. (stored : ℕ) → view.doing ≡ Writing step stored → Stored run board.words (step + 1) stored)

-- the words of a reading begin a line while the clock is near
abbrev pub IsTrueToSteps : Run → Board → Type 0
IsTrueToSteps run board = OfEach board (λ view. (number first : ℕ) (words : List ℕ) → view.doing ≡ Reading number first words → clock board < 2 * completed first + 4 → Begins words (line_of run (completed first) number))

-- a reading has no more words than its count of rows tells
abbrev pub IsWithinRows : Run → Board → Type 0
IsWithinRows run board = OfEach board (λ view. (number first : ℕ) (words : List ℕ) → view.doing ≡ Reading number first words → (number < count run) × (length words ≤ 1 + slice_index words 0 * (1 + width run number)))

abbrev pub KeepsLimits : Run → Board → Type 0
KeepsLimits run board = (bank p : ℕ) → bank < 2 → p < count run → slice_index board.words (spot run bank p 0) ≤ limit run p

-- a seat has the turn exactly where word 1 is 1, and no two have it
abbrev pub HasOneTurn : Board → Type 0
HasOneTurn board = (turn board ≡ 1 → (seat : ℕ) × (view : StoreView) × (get_elem? board.views seat ≡ some view) × (view.turn ≡ true))
    × ((i j : ℕ) (v w : StoreView) → get_elem? board.views i ≡ some v → get_elem? board.views j ≡ some w → v.turn ≡ true → w.turn ≡ true → (turn board ≡ 1) × (i ≡ j))

-- the writer has the turn while a step is under way
abbrev pub IsTurnOfWriter : Board → Type 0
IsTurnOfWriter board = OfWriter board (λ view step phase. IsUnderWay phase → (view.turn ≡ true) × (turn board ≡ 1))

-- the clock does not move past a look of a seat that has the turn
abbrev pub IsStill : Board → Type 0
IsStill board = OfEach board (λ view. view.turn ≡ true → ((first : ℕ) → view.doing ≡ Looked first → clock board ≡ first) × ((number first : ℕ) (words : List ℕ) → view.doing ≡ Reading number first words → clock board ≡ first))
