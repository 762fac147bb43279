-- What a subscription tells of a run, and what a mirror makes of it.
use Rattle.std.proofs.Common.{◌≡◌, refl, ap, ap₂, sym, ◌∙◌, Bool, true, false, cond, ◌&&◌, ℕ, suc, ◌+◌, ◌<◌, ◌≤◌, ◌==◌, add-zero, arith, List, [], ◌∷◌, map, filter, length, Some, None, Option}
use Rattle.std.{specs.Prelude.find, specs.List.cons_option}
use Rattle.key_lists.{specs.Keys.is_among, proofs.Every.{every, filter_filter, filter_same, filter-map}, proofs.Rising.as_filter}
use Rattle.tick_laws.{specs.Reached.IsReached, proofs.Composed.led, proofs.ReachedTables.reached_tables, proofs.RunTicks.{lawful_ticks, reached_before}, proofs.SliceTicks.{slice_carries, slice_first_tick, slice_is_tick}, proofs.ToldRows.change-carries}
use Rattle.tick_model.{specs.declared.feed.Run.Run, specs.declared.table.PlainTable.PlainTable, specs.declared.update.KeyPair.KeyPair, specs.Changes.{change_of, changed}, specs.Evaluation.table_at, specs.LawfulRuns.IsLawfulRun, specs.Shifts.composed, specs.Slices.{first_tick, kept_over, slice_tick}, specs.Sources.same_key, specs.States.{state, tick}, specs.Tables.{IsTable, keys}, specs.Updates.Tick}
use Rattle.tick_table.specs.Ticking.{no_rows}
use Rattle.viewport.{specs.declared.slice.Slice.Slice, specs.Mirrored.{mirrored, unless}, specs.Slices.cut, specs.Subscribed.{last_step, later_messages, messages, watching_at}, specs.Watching.{Watching, message_tick, passed, started}, proofs.Mirroring.tick_taken, proofs.SliceTables.{cut_table, cut_there}}

-- some pairs, chosen by their old keys, and led on
module _ (p : ℕ → Bool) (next : List KeyPair) where
  abbrev some : KeyPair → Bool
  some pair = p pair.old

  abbrev found : KeyPair → Option KeyPair
  found pair = find (λ (further : KeyPair). further.old == pair.new) next

  composed_some : (kept : List KeyPair) → composed (filter some kept) next ≡ filter some (composed kept next)
  composed_some [] = refl
  composed_some (pair ∷ kept) = first (p pair.old) ∙ go (p pair.old) refl (found pair) (composed_some kept)
    where
      first : (b : Bool) → composed (cond b (pair ∷ filter some kept) (filter some kept)) next ≡ cond b (cons_option (led pair (found pair)) (composed (filter some kept) next)) (composed (filter some kept) next)
      first true = refl
      first false = refl

      go : (b : Bool) → p pair.old ≡ b → (o : Option KeyPair) → composed (filter some kept) next ≡ filter some (composed kept next)
          → cond b (cons_option (led pair o) (composed (filter some kept) next)) (composed (filter some kept) next) ≡ filter some (cons_option (led pair o) (composed kept next))
      go true e None rest = rest
      go true e (Some further) rest =
          ap (λ pairs. let on : KeyPair = record { old = pair.old; new = further.new } in on ∷ pairs) rest
          ∙ sym (ap (λ b. let on : KeyPair = record { old = pair.old; new = further.new } in cond b (on ∷ filter some (composed kept next)) (filter some (composed kept next))) e)
      go false e None rest = rest
      go false e (Some further) rest =
          rest
          ∙ sym (ap (λ b. let on : KeyPair = record { old = pair.old; new = further.new } in cond b (on ∷ filter some (composed kept next)) (filter some (composed kept next))) e)

-- the pairs of a message are those of which both rows are in the slices
and_twice : (a b : Bool) → (a && (a && b)) ≡ (a && b)
and_twice true b = refl
and_twice false b = refl

pub message_is : (run : Run) (node : ℕ) (slice : Slice) (step more : ℕ) → message_tick (watching_at run node slice step more) ≡ slice_tick run node (cut slice) step more
message_is run node slice step more =
    let old = cut slice (table_at (state run step) node) in
    let new = cut slice (table_at (state run (step + more)) node) in
    ap (λ (kept : List KeyPair). let same : Tick = record { old = old; new = new; kept = kept } in same)
    (filter_filter (λ (pair : KeyPair). is_among pair.old (keys old.rows) && is_among pair.new (keys new.rows)) (λ pair. is_among pair.old (keys old.rows)) (kept_over run node step more)
    ∙ filter_same (λ (pair : KeyPair). is_among pair.old (keys old.rows) && (is_among pair.old (keys old.rows) && is_among pair.new (keys new.rows))) (λ pair. is_among pair.old (keys old.rows) && is_among pair.new (keys new.rows)) (kept_over run node step more)
    (every (λ (pair : KeyPair). (is_among pair.old (keys old.rows) && (is_among pair.old (keys old.rows) && is_among pair.new (keys new.rows))) ≡ (is_among pair.old (keys old.rows) && is_among pair.new (keys new.rows))) (kept_over run node step more)
    (λ pair. and_twice (is_among pair.old (keys old.rows)) (is_among pair.new (keys new.rows)))))

-- the last message is not before the first
last_after : (step : ℕ) (steps : List ℕ) → step ≤ last_step step steps
last_after step [] = omega arith
last_after step (more ∷ others) = let later = last_after (step + more) others in omega (arith, later)

module _ (run : Run) (h : IsLawfulRun run) (node : ℕ) (within : node < length run.plan.nodes) (slice : Slice) where
  abbrev at : ℕ → PlainTable
  at step = table_at (state run step) node

  is_table : (step : ℕ) → IsReached run step → IsTable (at step)
  is_table step r = (reached_tables run h step r).tables node

  pub start_follows : (step : ℕ) → IsReached run step → started slice (at step) ≡ watching_at run node slice step 0
  start_follows step r =
      let last = cut slice (at step) in
      ap₂ (λ (table : PlainTable) (kept : List KeyPair). let same : Watching = record { slice = slice; last = last; table = table; kept = kept } in same)
      (ap at (sym (add-zero step)))
      (sym (filter-map (λ (pair : KeyPair). is_among pair.old (keys last.rows)) same_key (keys (at step).rows)
      ∙ ap (map same_key) (as_filter (keys last.rows) (keys (at step).rows) (cut_table slice (at step) (is_table step r)).rising (is_table step r).rising (cut_there slice (at step)))))

  pub pass_follows : (step more : ℕ) → IsReached run (step + suc more) → passed (watching_at run node slice step more) (tick run (step + suc more) node) ≡ watching_at run node slice step (suc more)
  pass_follows step more r =
      let last = cut slice (at step) in
      ap₂ (λ (table : PlainTable) (kept : List KeyPair). let same : Watching = record { slice = slice; last = last; table = table; kept = kept } in same)
      (lawful_ticks run h (step + suc more) r node within).new_is
      (composed_some (λ key. is_among key (keys last.rows)) (tick run (step + suc more) node).kept (kept_over run node step more))

  later_follows : (step : ℕ) (steps : List ℕ) → IsReached run (last_step step steps) → mirrored (cut slice (at step)) (later_messages run node slice step steps) ≡ Some (cut slice (at (last_step step steps)))
  later_follows step [] r = refl
  later_follows step (more ∷ others) r =
      let there : IsReached run (step + more) = reached_before run (step + more) (last_step (step + more) others) (last_after (step + more) others) r in
      let message = slice_tick run node (cut slice) step more in
      ap (λ fault. unless fault (mirrored (changed (cut slice (at step)) (change_of message)) (later_messages run node slice (step + more) others)))
      (tick_taken message (slice_is_tick run h node within slice.first slice.count slice.columns step more there))
      ∙ ap (λ table. mirrored table (later_messages run node slice (step + more) others)) (slice_carries run h node within slice.first slice.count slice.columns step more there)
      ∙ later_follows (step + more) others r

  pub mirror_follows : (step : ℕ) (steps : List ℕ) → IsReached run (last_step step steps) → mirrored (no_rows (length slice.columns)) (messages run node slice step steps) ≡ Some (cut slice (at (last_step step steps)))
  mirror_follows step steps r =
      let there : IsReached run step = reached_before run step (last_step step steps) (last_after step steps) r in
      let message = first_tick run node (cut slice) step in
      let tick = slice_first_tick run h node within slice.first slice.count slice.columns step there in
      ap (λ fault. unless fault (mirrored (changed (no_rows (length slice.columns)) (change_of message)) (later_messages run node slice step steps))) (tick_taken message tick)
      ∙ ap (λ table. mirrored table (later_messages run node slice step steps)) (change-carries message tick)
      ∙ later_follows step steps r
