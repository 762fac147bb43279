-- The messages of a watched run are the same wherever its formulas lie.
use Rattle.std.proofs.Common.{◌≡◌, refl, ap, ◌∙◌, ℕ, zero, suc, ◌+◌, List, [], ◌∷◌, ◌++◌, map, length, Option, Some, None}
use Rattle.tick_model.{specs.declared.feed.Run.Run, specs.declared.plan.ColumnSpec.ColumnSpec, specs.declared.table.PlainTable.PlainTable, specs.declared.update.KeyPair.KeyPair, specs.Changes.change_of, specs.Evaluation.{Outcome, table_at}, specs.Shifts.composed, specs.Slices.{first_tick, kept_over, slice_tick}, specs.Sources.{opened, same_key}, specs.States.{state, tick}, specs.Tables.keys, specs.Texts.{change_records, columns_at, name_at, records_text}, specs.Updates.{Tick, both_in}}
use Rattle.feed_reader.specs.Assembled.{plain_run}
use Rattle.viewport.{specs.declared.slice.Slice.Slice, specs.Slices.cut}
use Rattle.watched_run.{specs.declared.watch.Watch.Watch, specs.Messages.{first_records, gaps, later_records, message_records, slice_of, slice_with, tick_records, watch_text}, specs.ToCome.watch_until}
use Rattle.feed_run.proofs.PlainRuns.{columns_plain, name_plain, state_plain, tick_plain}

-- the tick between two slices, along pairs of the table
abbrev between_slices : PlainTable → PlainTable → List KeyPair → Tick
between_slices old new kept = record { old = old; new = new; kept = both_in old new kept }

module _ (run : Run) (watch : Watch) where
  slice_plain : slice_of (plain_run run) watch ≡ slice_of run watch
  slice_plain = ap (λ (of : ℕ → List ColumnSpec). slice_with watch (length (of watch.node))) (columns_plain run)

  first_plain : (shown : PlainTable → PlainTable) → first_tick (plain_run run) watch.node shown 0 ≡ first_tick run watch.node shown 0
  first_plain shown = ap (λ (outcomes : List Outcome). opened (shown (table_at outcomes watch.node))) (state_plain run 0)

  kept_plain : (step more : ℕ) → kept_over (plain_run run) watch.node step more ≡ kept_over run watch.node step more
  kept_plain step zero = ap (λ (outcomes : List Outcome). map same_key (keys (table_at outcomes watch.node).rows)) (state_plain run step)
  kept_plain step (suc more) =
      ap (λ (kept : List KeyPair). composed kept (tick (plain_run run) (step + suc more) watch.node).kept) (kept_plain step more)
      ∙ ap (λ (own : Tick). composed (kept_over run watch.node step more) own.kept) (tick_plain run (step + suc more) watch.node)

  later_plain : (shown : PlainTable → PlainTable) (step more : ℕ) → slice_tick (plain_run run) watch.node shown step more ≡ slice_tick run watch.node shown step more
  later_plain shown step more =
      ap (λ (outcomes : List Outcome). between_slices (shown (table_at outcomes watch.node)) (shown (table_at (state (plain_run run) (step + more)) watch.node)) (kept_over (plain_run run) watch.node step more)) (state_plain run step)
      ∙ ap (λ (outcomes : List Outcome). between_slices (shown (table_at (state run step) watch.node)) (shown (table_at outcomes watch.node)) (kept_over (plain_run run) watch.node step more)) (state_plain run (step + more))
      ∙ ap (between_slices (shown (table_at (state run step) watch.node)) (shown (table_at (state run (step + more)) watch.node))) (kept_plain step more)

  -- records
  records_plain : (step : ℕ) (own : Tick) → tick_records (plain_run run) watch step own ≡ tick_records run watch step own
  records_plain step own =
      ap (λ (of : ℕ → List ℕ). change_records step (of watch.node) (columns_at (plain_run run) watch.node) run.texts (change_of own)) (name_plain run)
      ∙ ap (λ (of : ℕ → List ColumnSpec). change_records step (name_at run watch.node) (of watch.node) run.texts (change_of own)) (columns_plain run)

  first_records_plain : first_records (plain_run run) watch ≡ first_records run watch
  first_records_plain =
      records_plain 0 (first_tick (plain_run run) watch.node (cut (slice_of (plain_run run) watch)) 0)
      ∙ ap (λ (slice : Slice). tick_records run watch 0 (first_tick (plain_run run) watch.node (cut slice) 0)) slice_plain
      ∙ ap (tick_records run watch 0) (first_plain (cut (slice_of run watch)))

  message_plain : (step more : ℕ) → message_records (plain_run run) watch step more ≡ message_records run watch step more
  message_plain step more =
      records_plain (step + more) (slice_tick (plain_run run) watch.node (cut (slice_of (plain_run run) watch)) step more)
      ∙ ap (λ (slice : Slice). tick_records run watch (step + more) (slice_tick (plain_run run) watch.node (cut slice) step more)) slice_plain
      ∙ ap (tick_records run watch (step + more)) (later_plain (cut (slice_of run watch)) step more)

  later_records_plain : (step : ℕ) (steps : List ℕ) → later_records (plain_run run) watch step steps ≡ later_records run watch step steps
  later_records_plain step [] = refl
  later_records_plain step (more ∷ others) =
      ap (λ first. first ++ later_records (plain_run run) watch (step + more) others) (message_plain step more)
      ∙ ap (λ rest. message_records run watch step more ++ rest) (later_records_plain (step + more) others)

  -- texts
  pub watch_plain : (last : ℕ) → watch_text (plain_run run) watch last ≡ watch_text run watch last
  watch_plain last =
      ap (λ first. records_text (first ++ later_records (plain_run run) watch 0 (gaps watch.every 0 last))) first_records_plain
      ∙ ap (λ rest. records_text (first_records run watch ++ rest)) (later_records_plain 0 (gaps watch.every 0 last))

  pub until_plain : (last : Option ℕ) → watch_until (plain_run run) watch last ≡ watch_until run watch last
  until_plain None = refl
  until_plain (Some last) = watch_plain last
