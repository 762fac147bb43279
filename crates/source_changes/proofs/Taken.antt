-- A step that takes a block.
use Rattle.std.proofs.Common.{◌≡◌, ap, sym, ◌∙◌, not, ◌+◌, ◌*◌, ◌≤◌, arith, length, None, subst}
use Rattle.std.proofs.Math.Nat.{mul-le-mul_left}
use Rattle.key_lists.{specs.Keys.{is_among, IsRising, without}, proofs.Rising.rising_some}
use Rattle.shift_data.specs.Moves.{IsLawful}
use Rattle.tick_model.{specs.declared.feed.Block.Block, specs.Sources.{IsBlock, block_fault, carry_on, update_of}, specs.Tables.keys, specs.Updates.new_keys}
use Rattle.source_changes.{specs.Blocks.IsReadable, specs.Faults.keys_fault, specs.Reads.{read_rows, step_reads}, specs.Stepping.{IsStepping, Stands, Stepping, stepped, ticked, update_after}, proofs.Counts.{length-added, length-modified}, proofs.Faulted.block_keys_fault, proofs.Followed.{after_added, after_modified}, proofs.Gathered.ranges_rise, proofs.Standing.{follow, stands_on, told_moves}, proofs.Ticked.{stepping, tick_is}}
use Rattle.table_update.specs.Coalesced.{Follow}

module _ (step : Stepping) (h : IsStepping step) (block : Block) (r : IsReadable block) (l : IsBlock step.old.width block) where
  pub same_fault : keys_fault (keys (ticked step).new.rows) (update_of block) ≡ block_fault (ticked step).new block
  same_fault = block_keys_fault (ticked step).new block l.rising_added

  keys_rise : IsRising (keys (ticked step).new.rows)
  keys_rise = h.is_tick.new_table.rising

  removed_rise : IsRising (update_of block).removed
  removed_rise = ranges_rise block.removed r.removed

  added_rise : IsRising step.update.added
  added_rise = subst IsRising (sym h.added) (rising_some (λ key. not (is_among key (new_keys (ticked step).kept))) (keys (ticked step).new.rows) keys_rise)

  module _ (fine : keys_fault (keys (ticked step).new.rows) (update_of block) ≡ None) where
    pub unbroken : block_fault (ticked step).new block ≡ None
    unbroken = sym same_fault ∙ fine

    stands : Stands (carry_on (ticked step) block) (stepped step block)
    stands = stands_on (ticked step) step h block l unbroken removed_rise h.is_tick.old_table.rising added_rise

    pub moves : IsLawful block.shifts (without (update_of block).removed (keys step.told))
    moves = told_moves (ticked step) step h block l unbroken removed_rise h.is_tick.old_table.rising added_rise

    pub steps_on : IsStepping (stepped step block)
    steps_on = stepping (carry_on (ticked step) block) (stepped step block) stands

    pub ticks_on : ticked (stepped step block) ≡ carry_on (ticked step) block
    ticks_on = sym (tick_is (carry_on (ticked step) block) (stepped step block) stands)

    -- the rows that the block has read
    follows : Follow (keys step.old.rows) step.update (update_of block)
    follows = follow (ticked step) step h block l unbroken removed_rise h.is_tick.old_table.rising added_rise

    few_rows : read_rows (update_after (keys step.old.rows) step.update (update_of block)) ≤ read_rows step.update + read_rows (update_of block)
    few_rows =
        let old = keys step.old.rows in
        let f = follows.applies in
        let n = follows.follows in
        omega (
          arith,
          ap length (after_added old step.update (update_of block) f n h.is_tick.old_table.rising added_rise h.modified_rise removed_rise l.rising_added l.rising_modified),
          ap length (after_modified old step.update (update_of block) f n h.is_tick.old_table.rising added_rise h.modified_rise removed_rise l.rising_added l.rising_modified),
          length-added old step.update (update_of block) f n added_rise l.rising_added,
          length-modified old step.update (update_of block) f n added_rise h.modified_rise l.rising_modified,
        )

    pub reads_on : step_reads (stepped step block) ≤ step_reads step + step.old.width * read_rows (update_of block)
    reads_on = omega (arith, mul-le-mul_left step.old.width few_rows)
