-- The sentences of the rule.
use Rattle.std.proofs.Common.{◌+◌, ◌-◌, subst, sym, ◌∙◌, arith}
use Rattle.tick_model.specs.declared.feed.Run.{Run}
use Rattle.snapshot_store.{specs.declared.writers.Phase.TheVariants.{Idle, Begun, Stopped, Left}, specs.Models.words_of, specs.Rule.{IsDoing, KeepsRule, Stored}, specs.Sentences.{Board, clock, HasOneTurn, HoldsBoth, HoldsOne, IsClockOfWriter, IsFloorOfWriter, IsPastLooks, IsStill, IsTrueToSteps, IsTurnOfWriter, IsWithinRows, KeepsLimits}}

pub past_looks : (run : Run) (board : Board) → KeepsRule run board → IsPastLooks board
past_looks run board r = (r.started, λ seat view at. let k = r.each_seat seat view at in (k.below_clock, k.looks_below))

pub floor_of_writer : (run : Run) (board : Board) → KeepsRule run board → IsFloorOfWriter board
floor_of_writer run board r seat view at step stored is =
    let k = r.each_seat seat view at in
    let does = subst (IsDoing run (clock board) r.writer r.stored seat view.turn view.floor) is k.does in
    (does.1, does.2)

-- the floor of a writer is the clock, in each phase
pub clock_of_writer : (run : Run) (board : Board) → KeepsRule run board → IsClockOfWriter board
clock_of_writer run board r seat view at step Idle is = sym (floor_of_writer run board r seat view at step 0 is.2).0 ∙ is.0
clock_of_writer run board r seat view at step (Begun tables) is = sym (floor_of_writer run board r seat view at step (words_of is.3.0 (step + 1) tables) is.3.2).0 ∙ is.0
clock_of_writer run board r seat view at step Stopped is = sym (floor_of_writer run board r seat view at step is.2.0 is.2.1).0 ∙ is.0
clock_of_writer run board r seat view at step Left is = sym (floor_of_writer run board r seat view at step is.2.0 is.2.1).0 ∙ is.0

pub turn_of_writer : (run : Run) (board : Board) → KeepsRule run board → IsTurnOfWriter board
turn_of_writer run board r seat view at step Idle is under = absurd under
turn_of_writer run board r seat view at step (Begun tables) is under = (is.1, ((r.each_seat seat view at).has_turn is.1).0)
turn_of_writer run board r seat view at step Stopped is under = (is.1, ((r.each_seat seat view at).has_turn is.1).0)
turn_of_writer run board r seat view at step Left is under = absurd under

pub holds_both : (run : Run) (board : Board) → KeepsRule run board → HoldsBoth run board
holds_both run board r step e = (r.live step (omega arith) (omega arith), λ some. r.live (step - 1) (omega arith) (omega arith))

pub holds_one : (run : Run) (board : Board) → KeepsRule run board → HoldsOne run board
holds_one run board r step e = (
  r.live step (omega arith) (omega arith),
  λ seat view at stored is.
      let k = r.each_seat seat view at in
      let does = subst (IsDoing run (clock board) r.writer r.stored seat view.turn view.floor) is k.does in
      subst (Stored run board.words (step + 1)) (sym does.3) (r.filled step (omega arith)),
)

pub true_to_steps : (run : Run) (board : Board) → KeepsRule run board → IsTrueToSteps run board
true_to_steps run board r seat view at number first words is =
    let k = r.each_seat seat view at in
    let does = subst (IsDoing run (clock board) r.writer r.stored seat view.turn view.floor) is k.does in
    does.5

pub within_rows : (run : Run) (board : Board) → KeepsRule run board → IsWithinRows run board
within_rows run board r seat view at number first words is =
    let k = r.each_seat seat view at in
    let does = subst (IsDoing run (clock board) r.writer r.stored seat view.turn view.floor) is k.does in
    (does.3, does.4)

pub keeps_limits : (run : Run) (board : Board) → KeepsRule run board → KeepsLimits run board
keeps_limits run board r = r.counted

pub one_turn : (run : Run) (board : Board) → KeepsRule run board → HasOneTurn board
one_turn run board r = (
  λ e. let h = r.held e in (r.holder, h.0, h.1, h.2),
  λ i j v w at there v_has w_has.
      let a = (r.each_seat i v at).has_turn v_has in
      let b = (r.each_seat j w there).has_turn w_has in
      (a.0, a.1 ∙ sym b.1),
)

pub still : (run : Run) (board : Board) → KeepsRule run board → IsStill board
still run board r seat view at has =
    let k = r.each_seat seat view at in (
      λ first is. let does = subst (IsDoing run (clock board) r.writer r.stored seat view.turn view.floor) is k.does in sym (does.2 has),
      λ number first words is. let does = subst (IsDoing run (clock board) r.writer r.stored seat view.turn view.floor) is k.does in sym (does.2 has),
    )
