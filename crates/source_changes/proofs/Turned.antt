-- A source that takes a block: its keys, and the step after it.
use Rattle.std.proofs.Common.{◌≡◌, refl, ap, ap₂, sym, ◌∙◌, subst, Option, ℕ, ◌+◌, ◌*◌, ◌^◌, ◌<◌, ◌≤◌, List, [], length, Some, None}
use Rattle.std.{specs.List.AllByRecursion, specs.Option.option_or, specs.Prelude.option_map, proofs.lemmas.Option.none-some}
use Rattle.key_lists.{specs.Keys.without, proofs.Every.{every_weaker, every-map}}
use Rattle.row_set.specs.Sets.{IsKeySet}
use Rattle.shift_data.specs.Moves.{IsLawful}
use Rattle.tick_laws.{specs.Checked.keys_after, specs.Replaced.no_update}
use Rattle.tick_model.{specs.declared.feed.Block.Block, specs.declared.table.PlainRow.PlainRow, specs.declared.table.PlainTable.PlainTable, specs.declared.update.FeedRule.TheVariants.Update as ByUpdate, specs.declared.update.FeedRule.FeedRule, specs.declared.update.UpdateFault.UpdateFault, specs.Rules.update_fault, specs.Sources.{IsBlock, block_fault, carry_on, too_many, unchanged, update_of}, specs.Tables.{IsRow, IsTable, keys}, specs.Updates.Update}
use Rattle.source_changes.{specs.declared.gathering.PendingUpdate.PendingUpdate, specs.declared.taking.TakenBlocks.TakenBlocks, specs.Blocks.IsReadable, specs.Faults.{IsKeysBelow, keys_fault}, specs.Reads.{read_rows, step_reads}, specs.Stepping.{IsStepping, Stepping, stepped, ticked, told_after, update_after}, specs.Taking.{IsTaking, taking}, specs.Waiting.{AreSets, AreSetsOf, IsGathered, Waits, joined, keys_with}, proofs.Followed.unmoved, proofs.Joining.keys_joined, proofs.Reading.new_step, proofs.Standing.{after_is, first_applies, lawful_wider, stands_unchanged}, proofs.Taken.{moves, reads_on as step_reads_on, same_fault, steps_on, ticks_on, unbroken}}

pub table_set : (table : PlainTable) → IsTable table → IsKeySet (keys table.rows)
table_set table h = record {
  rising = h.rising;
  small = every-map (λ key. key < 2 ^ 62) (λ (row : PlainRow). row.key) table.rows (every_weaker (IsRow table.width) (λ row. row.key < 2 ^ 62) table.rows (λ row r. r.key) h.rows);
}

-- an update that breaks no rule and leaves few enough keys may be applied
pub may_apply : (ks : List ℕ) (update : Update) → keys_fault ks update ≡ None → update_fault (2 ^ 62) ks update ≡ None
may_apply ks update e = lawful_wider ks update (first_none (update_fault (2 ^ 40) ks update) (too_many (length (keys_after ks update))) e)
  where
    first_none : (o : Option UpdateFault) (others : Option FeedRule) → option_or (option_map ByUpdate o) others ≡ None → o ≡ None
    first_none None others e = refl
    first_none (Some fault) others e = absurd (none-some (ByUpdate fault) (sym e))

-- a source that no block has changed
pub starts : (source : TakenBlocks) → IsTable source.table.now.new → source.gathered.keys ≡ keys source.table.now.new.rows → source.gathered.update ≡ no_update → source.gathered.waiting ≡ None → source.told ≡ []
    → IsTaking source × (ticked (taking source) ≡ unchanged source.table.now.new)
starts source t k u w e = (record { gathered = gathered; stepping = begins.0 }, begins.1)
  where
    old : List ℕ
    old = keys source.table.now.new.rows

    begins : IsStepping (taking source) × (ticked (taking source) ≡ unchanged source.table.now.new)
    begins = new_step source.table.now.new (joined old source.gathered.update source.gathered.waiting) source.told t (ap₂ (joined old) u w) e

    none : IsKeySet []
    none = record { rising = tt; small = tt }

    fresh : Stepping
    fresh = record { old = source.table.now.new; update = no_update; told = [] }

    gathered : IsGathered old source.gathered
    gathered = record {
      keys = k ∙ sym (ap (keys_after old) u ∙ unmoved old);
      plain = ap (λ (update : Update). update.columns) u;
      applies = ap (update_fault (2 ^ 62) old) u ∙ first_applies (unchanged source.table.now.new) fresh (stands_unchanged source.table.now.new t);
      waits = subst (Waits source.gathered.keys) (sym w) tt;
      sets = subst AreSets (sym u) (record { removed = none; added = none; modified = none });
      waiting_sets = subst AreSetsOf (sym w) tt;
    }

module _ (source : TakenBlocks) (h : IsTaking source) where
  abbrev step : Stepping
  step = taking source

  abbrev old : List ℕ
  old = keys source.table.now.new.rows

  abbrev gathered : PendingUpdate
  gathered = source.gathered

  pub old_set : IsKeySet old
  old_set = table_set source.table.now.new h.stepping.is_tick.old_table

  -- the keys of now
  pub keys_now : keys_with gathered.keys gathered.waiting ≡ keys (ticked step).new.rows
  keys_now = keys_joined old old_set gathered.keys gathered.update gathered.waiting h.gathered ∙ after_is (ticked step) step h.stepping

  -- the step of a source that has taken all blocks
  pub closes : (closed : Stepping) → closed.old ≡ source.table.now.new → closed.update ≡ joined old gathered.update gathered.waiting → closed.told ≡ source.told → closed ≡ step
  closes closed o u t =
      ap (λ (table : PlainTable). let made : Stepping = record { old = table; update = closed.update; told = closed.told } in made) o
      ∙ ap₂ (λ (update : Update) (told : List PlainRow). let made : Stepping = record { old = step.old; update = update; told = told } in made) u t

  module _ (ks : List ℕ) (same : ks ≡ keys_with gathered.keys gathered.waiting) where
    now_is : ks ≡ keys (ticked step).new.rows
    now_is = same ∙ keys_now

    pub now_below : AllByRecursion (λ key. key < 2 ^ 40) (keys (ticked step).new.rows) → IsKeysBelow (2 ^ 40) ks
    now_below below = subst (IsKeysBelow (2 ^ 40)) (sym now_is) (record { rising = h.stepping.is_tick.new_table.rising; below = below })

    module _ (block : Block) (r : IsReadable block) (l : IsBlock step.old.width block) (next : Update) (is : next ≡ update_of block) where
      pub fault_is : keys_fault ks next ≡ block_fault (ticked step).new block
      fault_is = ap₂ keys_fault now_is is ∙ same_fault step h.stepping block r l

      module _ (fine : keys_fault ks next ≡ None) where
        fine_now : keys_fault (keys (ticked step).new.rows) (update_of block) ≡ None
        fine_now = sym (ap₂ keys_fault now_is is) ∙ fine

        pub block_fine : block_fault (ticked step).new block ≡ None
        block_fine = unbroken step h.stepping block r l fine_now

        pub told_moves : IsLawful block.shifts (without (update_of block).removed (keys source.told))
        told_moves = moves step h.stepping block r l fine_now

        module _ (new : TakenBlocks) (table : new.table.now.new ≡ source.table.now.new) (gathers : IsGathered old new.gathered)
            (joins : joined old new.gathered.update new.gathered.waiting ≡ update_after old (joined old gathered.update gathered.waiting) next) (tells : new.told ≡ told_after source.told block) where
          step_is : taking new ≡ stepped step block
          step_is =
              ap (λ (table : PlainTable). let made : Stepping = record { old = table; update = joined (keys table.rows) new.gathered.update new.gathered.waiting; told = new.told } in made) table
              ∙ ap₂ (λ (update : Update) (told : List PlainRow). let made : Stepping = record { old = step.old; update = update; told = told } in made)
              (joins ∙ ap (update_after old step.update) is) tells

          pub takes_on : IsTaking new
          takes_on = record {
            gathered = subst (λ (table : PlainTable). IsGathered (keys table.rows) new.gathered) (sym table) gathers;
            stepping = subst IsStepping (sym step_is) (steps_on step h.stepping block r l fine_now);
          }

          pub ticked_on : ticked (taking new) ≡ carry_on (ticked step) block
          ticked_on = ap ticked step_is ∙ ticks_on step h.stepping block r l fine_now

          pub reads_on : step_reads (taking new) ≤ step_reads step + step.old.width * read_rows (update_of block)
          reads_on = subst (λ (made : Stepping). step_reads made ≤ step_reads step + step.old.width * read_rows (update_of block)) (sym step_is) (step_reads_on step h.stepping block r l fine_now)
