-- While no batch breaks a rule, each source's change is a tick.
use Rattle.std.proofs.Common.{◌≡◌, refl, ap, sym, ◌∙◌, subst, ℕ, zero, suc, ◌≤◌, arith, List, [], ◌∷◌, map, get_or, set, None, true}
use Rattle.std.{specs.Prelude.option_map, specs.List.AllByRecursion, proofs.lemmas.List.map-id}
use Rattle.tick_model.{specs.declared.feed.Batch.Batch, specs.declared.feed.Block.Block, specs.declared.feed.Run.Run, specs.declared.plan.Plan.Plan, specs.declared.table.PlainTable.PlainTable, specs.declared.update.KeyPair.KeyPair, specs.Tables.{keys, IsTable, no_table}, specs.Updates.{Tick, IsTick, pairs}, specs.Evaluation.source_number, specs.Sources.{IsBlock, HasTables, block_width, block_fault, record_of, blocks_fault, batch_fault, blocks_of, carry_on, carried, update_of, unchanged, same_key, opened, no_tick, tick_at, after_block, after_blocks, source_ticks, sources, new_table}}
use Rattle.key_lists.{specs.Keys.{is_among, IsRising}, proofs.Among.each_among, proofs.Every.{every-map, map_map}}
use Rattle.tick_laws.{proofs.Blocks.block_tick, proofs.CheckedUpdates.{none_parts, map_none}, proofs.Composed.composed_tick}

-- a table that stays keeps all its rows
pub unchanged_tick : (table : PlainTable) → IsTable table → IsTick (unchanged table)
unchanged_tick table h = record {
  old_table = h;
  new_table = h;
  one_width = refl;
  of_old = subst (AllByRecursion (λ k. is_among k (keys table.rows) ≡ true)) (sym olds) (each_among (keys table.rows));
  of_new = subst (AllByRecursion (λ k. is_among k (keys table.rows) ≡ true)) (sym news) (each_among (keys table.rows));
  rising_old = subst IsRising (sym olds) h.rising;
  rising_new = subst IsRising (sym news) h.rising;
}
  where
    olds : map (λ (p : KeyPair). p.old) (map same_key (keys table.rows)) ≡ keys table.rows
    olds = map_map (λ (p : KeyPair). p.old) same_key (keys table.rows) ∙ map-id (keys table.rows)

    news : map (λ (p : KeyPair). p.new) (map same_key (keys table.rows)) ≡ keys table.rows
    news = map_map (λ (p : KeyPair). p.new) same_key (keys table.rows) ∙ map-id (keys table.rows)

empty_table : (width : ℕ) → let table : PlainTable = record { width = width; rows = [] } in IsTable table
empty_table width = record { rows = tt; rising = tt }

pub opened_tick : (table : PlainTable) → IsTable table → IsTick (opened table)
opened_tick table h = record { old_table = empty_table table.width; new_table = h; one_width = refl; of_old = tt; of_new = tt; rising_old = tt; rising_new = tt }

-- what holds of all places holds after a write of such a value
set_every : {X : Type 0} (P : ℕ → X → Type 0) (d : X) (xs : List X) (i : ℕ) (x : X) → P i x → ((k : ℕ) → P k (get_or xs k d)) → (k : ℕ) → P k (get_or (set xs i x) k d)
set_every P d [] i x p h k = h k
set_every P d (y ∷ ys) zero x p h zero = p
set_every P d (y ∷ ys) zero x p h (suc k) = h (suc k)
set_every P d (y ∷ ys) (suc i) x p h zero = h zero
set_every P d (y ∷ ys) (suc i) x p h (suc k) = set_every (λ k. P (suc k)) d ys i x p (λ k. h (suc k)) k

pub get_every : {X : Type 0} (P : X → Type 0) (d : X) (xs : List X) → P d → AllByRecursion P xs → (k : ℕ) → P (get_or xs k d)
get_every P d [] p h k = p
get_every P d (x ∷ xs) p h zero = h.0
get_every P d (x ∷ xs) p h (suc k) = get_every P d xs p h.1 k

-- a source's change, of the source's width
record IsSourceTick (width : ℕ) (tick : Tick) : Type 0 where
  is_tick : IsTick tick
  width_is : tick.new.width ≡ width

carried_on : (width : ℕ) (tick : Tick) (block : Block) → IsSourceTick width tick → IsBlock width block → block_fault tick.new block ≡ None → IsSourceTick width (carry_on tick block)
carried_on width tick block h l fine = record {
  is_tick =
      let next : Tick = record { old = tick.new; new = carried tick.new block; kept = pairs tick.new (update_of block) } in
      composed_tick tick next h.is_tick (block_tick tick.new block h.is_tick.new_table (subst (λ w. IsBlock w block) (sym h.width_is) l) fine) refl;
  width_is = h.width_is;
}

module _ (plan : Plan) (widths : ℕ → ℕ) where
  abbrev AreTicks : List Tick → Type 0
  AreTicks ticks = (place : ℕ) → IsSourceTick (widths place) (tick_at ticks place)

  blocks_ticks : (ticks : List Tick) (blocks : List Block) → AreTicks ticks → AllByRecursion (λ block. IsBlock (widths (source_number plan.nodes block.table)) block) blocks → blocks_fault plan ticks blocks ≡ None → AreTicks (after_blocks plan ticks blocks)
  blocks_ticks ticks [] h l fine = h
  blocks_ticks ticks (block ∷ blocks) h l fine =
      let place = source_number plan.nodes block.table in
      let parts = none_parts (option_map (λ rule. (record_of block rule, rule)) (block_fault (tick_at ticks place).new block)) (blocks_fault plan (after_block plan ticks block) blocks) fine in
      blocks_ticks (after_block plan ticks block) blocks
      (set_every (λ k tick. IsSourceTick (widths k) tick) no_tick ticks place (carry_on (tick_at ticks place) block) (carried_on (widths place) (tick_at ticks place) block (h place) l.0 (map_none (λ rule. (record_of block rule, rule)) (block_fault (tick_at ticks place).new block) parts.0)) h)
      l.1 parts.1

abbrev widths_of : Run → ℕ → ℕ
widths_of run place = (get_or run.opening place no_table).width

opened_at : (opening : List PlainTable) → AllByRecursion IsTable opening → (place : ℕ) → IsSourceTick (get_or opening place no_table).width (get_or (map opened opening) place no_tick)
opened_at [] h place = record { is_tick = opened_tick no_table (empty_table 0); width_is = refl }
opened_at (table ∷ opening) h zero = record { is_tick = opened_tick table h.0; width_is = refl }
opened_at (table ∷ opening) h (suc place) = opened_at opening h.1 place

unchanged_at : (widths : ℕ → ℕ) (ticks : List Tick) → ((place : ℕ) → IsSourceTick (widths place) (get_or ticks place no_tick)) → (place : ℕ) → IsSourceTick (widths place) (get_or (map (λ (tick : Tick). unchanged tick.new) ticks) place no_tick)
unchanged_at widths [] h place = h place
unchanged_at widths (tick ∷ ticks) h zero = record { is_tick = unchanged_tick tick.new (h zero).is_tick.new_table; width_is = (h zero).width_is }
unchanged_at widths (tick ∷ ticks) h (suc place) = unchanged_at (λ place. widths (suc place)) ticks (λ place. h (suc place)) place

source_ticks_are : (run : Run) → HasTables run → (step : ℕ) → ((s : ℕ) → s ≤ step → batch_fault run s ≡ None) → (place : ℕ) → IsSourceTick (widths_of run place) (tick_at (source_ticks run step) place)
source_ticks_are run h zero fine place = opened_at run.opening h.opening place
source_ticks_are run h (suc step) fine place =
    blocks_ticks run.plan (widths_of run) (map (λ (tick : Tick). unchanged tick.new) (source_ticks run step)) (blocks_of run (suc step))
    (unchanged_at (widths_of run) (source_ticks run step) (source_ticks_are run h step (λ s below. fine s (omega (arith, below)))))
    (get_every (AllByRecursion (λ block. IsBlock (block_width run block) block)) [] (map (λ (batch : Batch). batch.blocks) run.batches) tt
    (every-map (AllByRecursion (λ block. IsBlock (block_width run block) block)) (λ (batch : Batch). batch.blocks) run.batches h.blocks) step)
    (ap (λ ticks. blocks_fault run.plan ticks (blocks_of run (suc step))) (sym (map_map unchanged new_table (source_ticks run step))) ∙ fine (suc step) (omega arith))
    place

-- every source's change at a step
pub source_tick : (run : Run) → HasTables run → (step : ℕ) → ((s : ℕ) → s ≤ step → batch_fault run s ≡ None) → (place : ℕ) → IsTick (tick_at (source_ticks run step) place)
source_tick run h step fine place = (source_ticks_are run h step fine place).is_tick

-- the old tables stay, through all blocks
old_stays : (plan : Plan) (ticks : List Tick) (blocks : List Block) (place : ℕ) → (tick_at (after_blocks plan ticks blocks) place).old ≡ (tick_at ticks place).old
old_stays plan ticks [] place = refl
old_stays plan ticks (block ∷ blocks) place =
    old_stays plan (after_block plan ticks block) blocks place
    ∙ set_every (λ k (tick : Tick). tick.old ≡ (tick_at ticks k).old) no_tick ticks (source_number plan.nodes block.table) (carry_on (tick_at ticks (source_number plan.nodes block.table)) block) refl (λ k. refl) place

old_unchanged : (ticks : List Tick) (place : ℕ) → (get_or (map (λ (tick : Tick). unchanged tick.new) ticks) place no_tick).old ≡ get_or (map new_table ticks) place no_table
old_unchanged [] place = refl
old_unchanged (tick ∷ ticks) zero = refl
old_unchanged (tick ∷ ticks) (suc place) = old_unchanged ticks place

-- a source's change is from its table at one step to its table at the next
pub source_old : (run : Run) (step place : ℕ) → (tick_at (source_ticks run (suc step)) place).old ≡ get_or (sources run step) place no_table
source_old run step place = old_stays run.plan (map (λ (tick : Tick). unchanged tick.new) (source_ticks run step)) (blocks_of run (suc step)) place ∙ old_unchanged (source_ticks run step) place

pub source_new : (ticks : List Tick) (place : ℕ) → (tick_at ticks place).new ≡ get_or (map new_table ticks) place no_table
source_new [] place = refl
source_new (tick ∷ ticks) zero = refl
source_new (tick ∷ ticks) (suc place) = source_new ticks place
