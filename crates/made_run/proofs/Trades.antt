-- The tables of a made run's sources at each step: trades goes from block to block, and ref stays.
use Rattle.std.proofs.Common.{◌≡◌, refl, ap, ap₂, sym, ◌∙◌, subst, ℕ, zero, suc, ◌+◌, ◌*◌, ◌%◌, ◌==◌, ◌<◌, ◌≤◌, arith, Bool, true, false, List, [], ◌∷◌, map, length, None}
use Rattle.std.{specs.Prelude.{option_map, slice_index_or}, specs.List.range_with_len, proofs.lemmas.List.FromFn.get_or-map-range_with_len}
use Rattle.key_lists.proofs.Every.{map_map}
use Rattle.tick_model.{specs.declared.feed.Batch.Batch, specs.declared.feed.Block.Block, specs.declared.table.PlainTable.PlainTable, specs.Sources.{after_blocks, batch_fault, block_fault, blocks_fault, blocks_of, carried, new_table, record_of, source_ticks, sources, unchanged}, specs.Tables.keys, specs.Updates.Tick}
use Rattle.made_run.{specs.Draws.after, specs.Plan.plan, specs.Run.made, specs.Steps.{batch_after, block_of, draws_after, rows_after, survivors}, specs.Tables.{ref_table, trades_table}, proofs.Blocks.{Leaves, step_leaves}, proofs.Rows.{many_where_removed, rows_are_few, rows_of_next, some_where_modified}, proofs.Searches.{mapped_none, or_none}}

-- the block of the step after this one
unfoldable pub block_after : ℕ → Block
block_after before = block_of (before + 1) (rows_after before) (after (draws_after before) 1)

unfoldable pub trades : ℕ → PlainTable
trades zero = trades_table
trades (suc before) = carried (trades before) (block_after before)

-- a block of a step, on rows under keys in a row
next_leaves : (before : ℕ) → before ≤ 10000 → (table : PlainTable) → keys table.rows ≡ range_with_len 0 (rows_after before) → Leaves table (block_after before) (rows_after (before + 1))
unfolding block_after
next_leaves before few table in_row =
    subst (Leaves table (block_of (before + 1) (rows_after before) (after (draws_after before) 1))) (rows_of_next before)
    (step_leaves table (rows_after before) (after (draws_after before) 1) in_row (rows_are_few before few) (before + 1) (many_where_removed before) (some_where_modified before))

pub trades_keys : (step : ℕ) → step ≤ 10000 → keys (trades step).rows ≡ range_with_len 0 (rows_after step)
unfolding trades
trades_keys zero few = refl
trades_keys (suc before) few =
    let next : before + 1 ≡ suc before = omega arith in
    (next_leaves before (omega (arith, few)) (trades before) (trades_keys before (omega (arith, few)))).keys_are ∙ ap (λ step. range_with_len 0 (rows_after step)) next

pub no_block_fault : (before : ℕ) → before < 10000 → block_fault (trades before) (block_after before) ≡ None
no_block_fault before few = (next_leaves before (omega (arith, few)) (trades before) (trades_keys before (omega (arith, few)))).fault

-- what the first block of a step makes of the two sources
after_first : (table : PlainTable) (block : Block) → block.table ≡ 0 → map new_table (after_blocks plan (unchanged table ∷ unchanged ref_table ∷ []) (block ∷ [])) ≡ carried table block ∷ ref_table ∷ []
after_first table block first = ap (λ (number : ℕ). map new_table (after_blocks plan (unchanged table ∷ unchanged ref_table ∷ []) ((record block { table = number }) ∷ []))) first

fault_of_first : (table : PlainTable) (block : Block) → block.table ≡ 0 → block_fault table block ≡ None → blocks_fault plan (unchanged table ∷ unchanged ref_table ∷ []) (block ∷ []) ≡ None
fault_of_first table block first fine =
    ap (λ (number : ℕ). blocks_fault plan (unchanged table ∷ unchanged ref_table ∷ []) ((record block { table = number }) ∷ [])) first
    ∙ or_none (option_map (λ rule. (record_of block rule, rule)) (block_fault table block)) None (mapped_none (λ rule. (record_of block rule, rule)) (block_fault table block) fine) refl

first_source : (before : ℕ) → (block_after before).table ≡ 0
unfolding block_after
first_source before = refl

module _ (steps : ℕ) where
  blocks_made : (before : ℕ) → before < steps → blocks_of (made steps) (suc before) ≡ block_after before ∷ []
  unfolding block_after
  blocks_made before less =
      ap (λ (blocks : List (List Block)). slice_index_or blocks before []) (map_map (λ (batch : Batch). batch.blocks) batch_after (range_with_len 0 steps))
      ∙ get_or-map-range_with_len (λ before. (batch_after before).blocks) 0 steps before before [] less (omega arith)

  pub sources_made : (step : ℕ) → step ≤ steps → sources (made steps) step ≡ trades step ∷ ref_table ∷ []
  unfolding trades
  sources_made zero h = refl
  sources_made (suc before) h =
      ap₂ (λ ticks blocks. map new_table (after_blocks plan ticks blocks))
      (sym (map_map unchanged new_table (source_ticks (made steps) before)) ∙ ap (map unchanged) (sources_made before (omega (arith, h))))
      (blocks_made before (omega (arith, h)))
      ∙ after_first (trades before) (block_after before) (first_source before)

  pub no_batch_fault : steps ≤ 10000 → (step : ℕ) → step ≤ steps → batch_fault (made steps) step ≡ None
  no_batch_fault few zero h = refl
  no_batch_fault few (suc before) h =
      ap₂ (λ tables blocks. blocks_fault plan (map unchanged tables) blocks) (sources_made before (omega (arith, h))) (blocks_made before (omega (arith, h)))
      ∙ fault_of_first (trades before) (block_after before) (first_source before) (no_block_fault before (omega (arith, few, h)))
