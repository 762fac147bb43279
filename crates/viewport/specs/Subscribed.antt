-- A subscription to a node of a run.
--     watching_at run node slice step more      what a viewport stands for so many steps after the message of a step
--     messages run node slice step steps      the changes that the messages tell: the first one at the step, and each next one so many steps after the one before
--     last_step step steps      the step of the last of them
use Rattle.std.specs.Prelude.{ℕ, ◌+◌, List, [], ◌∷◌, filter}
use Rattle.key_lists.specs.Keys.{is_among}
use Rattle.tick_model.{specs.declared.feed.Run.Run, specs.Changes.{Change, change_of}, specs.Evaluation.table_at, specs.Slices.{first_tick, kept_over, slice_tick}, specs.States.state, specs.Tables.keys}
use Rattle.viewport.{specs.declared.slice.Slice.Slice, specs.Slices.cut, specs.Watching.Watching}

abbrev pub watching_at : Run → ℕ → Slice → ℕ → ℕ → Watching
watching_at run node slice step more =
    let last = cut slice (table_at (state run step) node) in
    record {
      slice = slice;
      last = last;
      table = table_at (state run (step + more)) node;
      kept = filter (λ pair. is_among pair.old (keys last.rows)) (kept_over run node step more);
    }

abbrev pub later_messages : Run → ℕ → Slice → ℕ → List ℕ → List Change
later_messages run node slice step [] = []
later_messages run node slice step (more ∷ others) = change_of (slice_tick run node (cut slice) step more) ∷ later_messages run node slice (step + more) others

abbrev pub messages : Run → ℕ → Slice → ℕ → List ℕ → List Change
messages run node slice step steps = change_of (first_tick run node (cut slice) step) ∷ later_messages run node slice step steps

abbrev pub last_step : ℕ → List ℕ → ℕ
last_step step [] = step
last_step step (more ∷ others) = last_step (step + more) others
