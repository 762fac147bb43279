use Rattle.std.proofs.Common.{ℕ, ◌+◌, List, [], ◌∷◌, ◌++◌, refl, ap, ap₂, sym, ◌∙◌, arith}
use Rattle.std.proofs.lemmas.List.FromFn.{map-range_with_len_more}
use Rattle.tick_model.{specs.declared.feed.Batch.Batch, specs.declared.feed.Block.Block}
use Rattle.made_run.{specs.Draws.after, specs.Steps.{batch_after, block_of, draws_after, draws_in, survivors}, proofs.Drawn.after-plus, proofs.Rows.{draws_of_next, rows_of_next}}
use Rattle.made_run.proofs.steps.batches.Goals as goal

pub loop-before-init : goal.loop-before-init
unfolding after
loop-before-init c = record { batches = c.in_ok-batches.ensures.items; rows = refl; state = c.new-draws.ensures }

pub loop-before-preserved : goal.loop-before-preserved
loop-before-preserved c =
    let before = c.loop-before.before in
    let so_far = c.loop-before.invariant in
    let blocks = c.in_ok-batch.ensures.block ∙ ap₂ (λ rows state. block_of (before + 1) rows state ∷ []) so_far.rows so_far.state in
    let batch = ap (λ (blocks : List Block). let batch : Batch = record { blocks = blocks } in batch) blocks in
    record {
      batches =
          c.in_ok-push.ensures.items
          ∙ ap₂ (λ (batches : List Batch) (batch : Batch). batches ++ batch ∷ []) so_far.batches batch
          ∙ sym (map-range_with_len_more batch_after 0 before before (omega arith));
      rows = ap (λ rows. rows + 20) (c.survivors.ensures ∙ ap (survivors (before + 1)) so_far.rows) ∙ rows_of_next before;
      state =
          c.in_ok-batch.ensures.state ∙ ap (after (draws_in (before + 1))) so_far.state
          ∙ after-plus (draws_in (before + 1)) (draws_after before) 1 ∙ ap (λ draws. after draws 1) (draws_of_next before);
    }
