-- The watched rows of a run, and the changes that its messages tell.
use Rattle.std.proofs.Common.{◌≡◌, refl, sym, ap, ◌∙◌, subst, ℕ, zero, suc, ◌+◌, ◌<◌, ◌≤◌, add-one, arith, List, map, take, drop, length, ℤ}
use Rattle.std.{specs.List.{AllByRecursion, range_with_len}, proofs.lemmas.List.FromFn.{fill_by_all, length-range_with_len}}
use Rattle.key_lists.{specs.Keys.IsRising, proofs.Every.{every-map, every_weaker}, proofs.Parts.{every-take, every-drop}}
use Rattle.tick_laws.{specs.Fitting.{FitsColumns, HasColumns}, specs.Reached.{IsReached, table_before}, proofs.FittingNodes.node_fits, proofs.LawfulSources.{length-fit_columns, rising_range}, proofs.ReachedTables.{bounded_at, reached_tables}, proofs.RunTicks.{lawful_ticks, reached_before}, proofs.SliceTicks.{slice_carries, slice_first_tick, slice_is_tick}, proofs.ToldRows.change-carries}
use Rattle.tick_model.{specs.declared.feed.Run.Run, specs.declared.plan.ColumnSpec.ColumnSpec, specs.declared.table.PlainRow.PlainRow, specs.declared.table.PlainTable.PlainTable, specs.Changes.{Change, change_of, changed}, specs.Evaluation.table_at, specs.LawfulRuns.IsLawfulRun, specs.Slices.{chosen_cells, first_tick, slice_tick}, specs.States.{state, tick}, specs.Tables.{cell, null}, specs.Texts.columns_at}
use Rattle.tick_table.{specs.Exact.{IsExact, tick_of, ticking}, specs.Ticking.{Ticking, no_rows}, proofs.ExactAgain.{exact_again, tick_again}}
use Rattle.viewport.{specs.declared.slice.Slice.Slice, specs.Slices.{IsSlice, cut}, specs.Subscribed.watching_at, specs.Watching.{Watching, message_tick, passed, started}, proofs.Subscriptions.{message_is, pass_follows, start_follows}}
use Rattle.watched_run.{specs.declared.watch.Watch.Watch, specs.Messages.{IsWatch, slice_of, slice_with}, specs.Told.IsMessage}

-- all cells of a row, column by column
cells_all : (cells : List ℤ) → map (cell cells) (range_with_len 0 (length cells)) ≡ cells
cells_all cells = sym (fill_by_all (cell cells) cells (length cells) null refl (λ k less. refl))

row_fits : (columns : List ColumnSpec) (texts : ℕ) (row : PlainRow) → FitsColumns columns texts row.cells → FitsColumns columns texts (chosen_cells (range_with_len 0 (length columns)) row).cells
row_fits columns texts row fits =
    subst (FitsColumns columns texts)
    (sym (ap (λ n. map (cell row.cells) (range_with_len 0 n)) (sym (length-fit_columns texts columns row.cells fits.kinds)) ∙ cells_all row.cells)) fits

slice_fits : (columns : List ColumnSpec) (texts first count : ℕ) (rows : List PlainRow) → AllByRecursion (λ (row : PlainRow). FitsColumns columns texts row.cells) rows
    → AllByRecursion (λ (row : PlainRow). FitsColumns columns texts row.cells) (map (chosen_cells (range_with_len 0 (length columns))) (take count (drop first rows)))
slice_fits columns texts first count rows fits =
    every-map (λ (row : PlainRow). FitsColumns columns texts row.cells) (chosen_cells (range_with_len 0 (length columns))) (take count (drop first rows))
    (every_weaker (λ (row : PlainRow). FitsColumns columns texts row.cells) (λ row. FitsColumns columns texts (chosen_cells (range_with_len 0 (length columns)) row).cells) (take count (drop first rows)) (row_fits columns texts)
    (every-take (λ (row : PlainRow). FitsColumns columns texts row.cells) count (drop first rows)
    (every-drop (λ (row : PlainRow). FitsColumns columns texts row.cells) first rows fits)))

-- the numbers of columns
columns_below : (from count bound : ℕ) → from + count ≤ bound → AllByRecursion (λ column. column < bound) (range_with_len from count)
columns_below from zero bound within = tt
columns_below from (suc count) bound within = (omega (arith, within), columns_below (from + 1) count bound (omega (arith, within)))

module _ (run : Run) (h : IsLawfulRun run) (watch : Watch) (w : IsWatch run watch) where
  abbrev at : ℕ → PlainTable
  at step = table_at (state run step) watch.node

  abbrev asked : Slice
  asked = slice_of run watch

  abbrev columns : List ColumnSpec
  columns = columns_at run watch.node

  abbrev shown : PlainTable → PlainTable
  shown = cut asked

  node_width : (step : ℕ) → IsReached run step → (at step).width ≡ length columns
  node_width step r = (bounded_at run h step r.batches watch.node w.node ((reached_tables run h step r).each watch.node w.node)).width_is

  pub column_count : length asked.columns ≡ length columns
  column_count = length-range_with_len 0 (length columns)

  pub asked_is : (step width : ℕ) (table : PlainTable) → IsReached run step → width ≡ table.width → table ≡ at step → slice_with watch width ≡ asked
  asked_is step width table r wide is = ap (slice_with watch) (wide ∙ ap (λ (t : PlainTable). t.width) is ∙ node_width step r)

  pub asks : (step width : ℕ) (table : PlainTable) → IsReached run step → width ≡ table.width → 1 ≤ width → table ≡ at step → IsSlice table.width asked
  asks step width table r wide some is =
      let own : table.width ≡ length columns = ap (λ (t : PlainTable). t.width) is ∙ node_width step r in
      record {
        first = w.first;
        some_rows = w.some_rows;
        few_rows = w.few_rows;
        some_columns = omega (arith, column_count, own, wide, some);
        rising = (rising_range 0 (length columns)).1;
        columns = columns_below 0 (length columns) table.width (omega (arith, own));
      }

  -- what the messages tell
  pub fits : (step : ℕ) → IsReached run step → HasColumns columns (length run.texts) (shown (at step))
  fits step r =
      slice_fits columns (length run.texts) watch.first watch.count (at step).rows
      (node_fits run h step r.batches watch.node w.node ((reached_tables run h step r).each watch.node w.node))

  pub first_message : (width : ℕ) (mirror : Ticking) (message : Change) → IsReached run 0 → width ≡ (at 0).width → mirror.new ≡ no_rows width → message ≡ change_of (first_tick run watch.node shown 0)
      → IsMessage columns (length run.texts) mirror.new message
  first_message width mirror message r wide empty told = record {
    tick = first_tick run watch.node shown 0;
    is_tick = slice_first_tick run h watch.node w.node asked.first asked.count asked.columns 0 r;
    old_is = empty ∙ ap no_rows (wide ∙ node_width 0 r ∙ sym column_count);
    message_is = told;
    width = column_count;
    fits = fits 0 r;
  }

  pub first_made : (width : ℕ) (mirror : Ticking) (message : Change) → IsReached run 0 → width ≡ (at 0).width → mirror.new ≡ no_rows width → message ≡ change_of (first_tick run watch.node shown 0)
      → changed mirror.new message ≡ shown (at 0)
  first_made width mirror message r wide empty told =
      let first = first_tick run watch.node shown 0 in
      ap (λ (old : PlainTable). changed old message) (empty ∙ ap no_rows (wide ∙ node_width 0 r ∙ sym column_count))
      ∙ ap (λ (change : Change). changed first.old change) told
      ∙ change-carries first (slice_first_tick run h watch.node w.node asked.first asked.count asked.columns 0 r)

  module _ (last since : ℕ) (r : IsReached run (last + since)) (mirror : PlainTable) (message : Change) (mirrored : mirror ≡ shown (at last)) (told : message ≡ change_of (slice_tick run watch.node shown last since)) where
    pub later_message : IsMessage columns (length run.texts) mirror message
    later_message = record {
      tick = slice_tick run watch.node shown last since;
      is_tick = slice_is_tick run h watch.node w.node asked.first asked.count asked.columns last since r;
      old_is = mirrored;
      message_is = told;
      width = column_count;
      fits = fits (last + since) r;
    }

    pub later_made : changed mirror message ≡ shown (at (last + since))
    later_made =
        ap (λ (old : PlainTable). changed old message) mirrored
        ∙ ap (λ (change : Change). changed (shown (at last)) change) told
        ∙ slice_carries run h watch.node w.node asked.first asked.count asked.columns last since r

  -- the subscription
  pub starts : (slice : Slice) (table : PlainTable) → IsReached run 0 → slice ≡ asked → table ≡ at 0 → started slice table ≡ watching_at run watch.node asked 0 0
  starts slice table r asks is =
      ap (λ (own : Slice). started own table) asks ∙ ap (started asked) is ∙ start_follows run h watch.node w.node asked 0 r

  pub starts_again : (step : ℕ) (slice : Slice) (table : PlainTable) → IsReached run step → slice ≡ asked → table ≡ at step → started slice table ≡ watching_at run watch.node asked step 0
  starts_again step slice table r asks is =
      ap (λ (own : Slice). started own table) asks ∙ ap (started asked) is ∙ start_follows run h watch.node w.node asked step r

  -- a step of the node's table
  module _ (last since : ℕ) (r : IsReached run (last + suc since)) (table : Ticking) (is : table ≡ ticking (tick run (last + suc since) watch.node)) where
    pub exact : IsExact table
    exact = subst IsExact (sym is) (exact_again (tick run (last + suc since) watch.node) (lawful_ticks run h (last + suc since) r watch.node w.node).is_tick)

    before : table_before run (last + suc since) watch.node ≡ at (last + since)
    before = let next : last + suc since ≡ suc (last + since) = omega arith in ap (λ n. table_before run n watch.node) next

    pub stands_before : at (last + since) ≡ table.old
    stands_before =
        sym (ap (λ (t : Ticking). t.old) is ∙ (lawful_ticks run h (last + suc since) r watch.node w.node).old_is ∙ before)

    pub passes : (watching : Watching) → watching ≡ watching_at run watch.node asked last since → passed watching (tick_of table) ≡ watching_at run watch.node asked last (since + 1)
    passes watching stands =
        let one = lawful_ticks run h (last + suc since) r watch.node w.node in
        ap (λ (own : Watching). passed own (tick_of table)) stands
        ∙ ap (λ (t : Ticking). passed (watching_at run watch.node asked last since) (tick_of t)) is
        ∙ ap (passed (watching_at run watch.node asked last since)) (tick_again (tick run (last + suc since) watch.node) one.is_tick)
        ∙ pass_follows run h watch.node w.node asked last since r
        ∙ ap (watching_at run watch.node asked last) (sym (add-one since))

-- a message of a subscription that stands so
pub tells_slice : (run : Run) (watch : Watch) (last since : ℕ) (watching : Watching) (message : Change) → watching ≡ watching_at run watch.node (slice_of run watch) last since
    → message ≡ change_of (message_tick watching) → message ≡ change_of (slice_tick run watch.node (cut (slice_of run watch)) last since)
tells_slice run watch last since watching message stands told =
    told ∙ ap (λ (own : Watching). change_of (message_tick own)) stands ∙ ap change_of (message_is run watch.node (slice_of run watch) last since)
