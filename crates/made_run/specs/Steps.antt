-- The steps of made runs: what each changes of trades.
--     rows_after step      how many rows trades has after a step
--     block_of step rows state      what a step changes of so many rows, by draws from a state on
--     batch_after step      the batch of the step after this one
use Rattle.std.specs.Prelude.{ℕ, ◌+◌, ◌-◌, ◌*◌, ◌/◌, ◌%◌, ◌==◌, Bool, List, [], ◌∷◌, negsuc, if◌then◌else◌}
use Rattle.tick_model.{specs.declared.feed.Batch.Batch, specs.declared.feed.Block.Block, specs.declared.table.PlainRow.PlainRow, specs.declared.update.KeyRange.KeyRange, specs.declared.update.ShiftRange.ShiftRange}
use Rattle.made_run.specs.Draws.{draw, after, drawn_row, drawn_rows}

-- every fifth step removes the first ten rows, and the rows behind them move up into their place
abbrev pub removes : ℕ → Bool
removes step = step % 5 == 0

abbrev pub survivors : ℕ → ℕ → ℕ
survivors step rows = if removes step then rows - 10 else rows

abbrev pub removed_in : ℕ → List KeyRange
removed_in step = if removes step then (record { first = 0; last = 9 }) ∷ [] else []

abbrev pub shifts_in : ℕ → ℕ → List ShiftRange
shifts_in step rows = if removes step then (record { begin = 10; end = rows - 1; delta = negsuc 9 }) ∷ [] else []

-- every second step modifies one of the rows that stay
abbrev pub modified_in : ℕ → ℕ → ℕ → List PlainRow
modified_in step rows state = if step % 2 == 0 then drawn_row (draw rows state) (after 1 state) ∷ [] else []

-- each step adds twenty rows, by eighty draws
abbrev pub block_of : ℕ → ℕ → ℕ → Block
block_of step rows state =
    let staying = survivors step rows in
    record {
      table = 0;
      number = 1;
      removed = removed_in step;
      shifts = shifts_in step rows;
      added = drawn_rows staying 20 state;
      modified = modified_in step staying (after 80 state);
    }

abbrev pub rows_after : ℕ → ℕ
rows_after step = 20 * step - 10 * (step / 5)

-- the draws of a step, and those of the steps up to this one
abbrev pub draws_in : ℕ → ℕ
draws_in step = 80 + (if step % 2 == 0 then 5 else 0)

abbrev pub draws_after : ℕ → ℕ
draws_after step = 80 * step + 5 * (step / 2)

abbrev pub batch_after : ℕ → Batch
batch_after step = record { blocks = block_of (step + 1) (rows_after step) (after (draws_after step) 1) ∷ [] }
