-- The rule of the words, which holds between any two steps of callers and writer.
--     Stands run words step p i      the word i of the table p at a step stands in its place, in the bank of the step
--     Holds run words step      all of them do
--     Stored run words step stored      the first so many words of the step do, one table after the other
--     Knows ..      what holds of the view of a seat
--     KeepsRule run state      the rule
-- Word 0 is the clock, word 1 the turn; the bank `step % 2` is that of a step.
use Rattle.std.{specs.Prelude.{◌≡◌, ℕ, ◌+◌, ◌*◌, ◌%◌, ◌<◌, ◌≤◌, List, length, Bool, true, slice_index, Some}, specs.List.All}
use mathlib.Core.Option.{some}
use lib.ListN.{get_elem?}
use Rattle.atomic_table.specs.Table.{State}
use Rattle.tick_model.{specs.Clock.completed, specs.declared.feed.Run.Run}
use Rattle.snapshot_store.{specs.declared.board.StoreView.StoreView, specs.declared.board.Doing.Doing, specs.declared.board.Doing.TheVariants.{Rest, Looked, Reading, Writing}, specs.Lines.{below, count, limit, width, size, total, spot, line_of, IsWhole}, specs.Views.Begins}

module _ (run : Run) (words : List ℕ) where
  abbrev pub Stands : ℕ → ℕ → ℕ → Type 0
  Stands step p i = (i < size run p) × (slice_index words (spot run (step % 2) p i) ≡ slice_index (line_of run step p) i)

  abbrev pub Holds : ℕ → Type 0
  Holds step = (p i : ℕ) → p < count run → i < length (line_of run step p) → Stands step p i

  abbrev pub Stored : ℕ → ℕ → Type 0
  Stored step stored = (p i : ℕ) → p < count run → i < length (line_of run step p) → below (λ q. length (line_of run step q)) p + i < stored → Stands step p i

module _ (run : Run) (clock writer stored seat : ℕ) where
  -- What a seat does agrees with the clock. A look is not past it, and is the clock where the seat has the turn. A reading has no more words
  -- than its count of rows says, and they begin the line of the step that was completed at its first look, while the clock is near. The
  -- writer has seen the clock, and knows the last completed step and how many words it has stored since.
  abbrev pub IsDoing : Bool → ℕ → Doing → Type 0
  IsDoing has floor Rest = Unit {0}
  IsDoing has floor (Looked first) = (0 < first) × (first ≤ clock) × (has ≡ true → first ≡ clock)
  IsDoing has floor (Reading number first words) = (0 < first) × (first ≤ clock) × (has ≡ true → first ≡ clock) × (number < count run) × (length words ≤ 1 + slice_index words 0 * (1 + width run number)) × (clock < 2 * completed first + 4 → Begins words (line_of run (completed first) number))
  IsDoing has floor (Writing step so_far) = (seat ≡ writer) × (floor ≡ clock) × (completed clock ≡ step) × (so_far ≡ stored)

-- the seat `holder` may have the turn, and the seat `writer` may write
pub record Knows (run : Run) (clock turn holder writer stored seat : ℕ) (view : StoreView) : Type 0 where
  pub names : (named : Run) → view.run ≡ Some named → named ≡ run
  pub below_clock : view.floor ≤ clock
  pub looks_below : All (λ look. look ≤ clock) view.looks
  pub has_turn : view.turn ≡ true → (turn ≡ 1) × (seat ≡ holder)
  pub does : IsDoing run clock writer stored seat view.turn view.floor view.doing

pub record KeepsRule (run : Run) (state : State (Unit {0}) StoreView) : Type 0 where
  pub holder : ℕ
  pub writer : ℕ
  pub stored : ℕ
  pub wide : length state.words ≡ 2 + 2 * total run
  pub bit : slice_index state.words 1 < 2
  -- where word 1 is 1, a seat has the turn
  pub held : slice_index state.words 1 ≡ 1 → (view : StoreView) × (get_elem? state.views holder ≡ some view) × (view.turn ≡ true)
  pub started : 0 < slice_index state.words 0
  -- while the clock is near, the bank of a completed step holds it, and its lines are whole rows
  pub live : (step : ℕ) → 2 * step + 1 ≤ slice_index state.words 0 → slice_index state.words 0 < 2 * step + 4 → Holds run state.words step
  pub whole : (step p : ℕ) → 2 * step + 1 ≤ slice_index state.words 0 → slice_index state.words 0 < 2 * step + 4 → p < count run → IsWhole run step p
  -- while a step is updating, the other bank has what is stored of it
  pub filled : (step : ℕ) → slice_index state.words 0 ≡ 2 * step + 2 → Stored run state.words (step + 1) stored
  -- a count of rows is within its limit, in either bank
  pub counted : (bank p : ℕ) → bank < 2 → p < count run → slice_index state.words (spot run bank p 0) ≤ limit run p
  pub each_seat : (seat : ℕ) (view : StoreView) → get_elem? state.views seat ≡ some view → Knows run (slice_index state.words 0) (slice_index state.words 1) holder writer stored seat view
