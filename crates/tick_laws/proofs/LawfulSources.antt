-- The sources of a lawful run stay within their bounds and fit their columns, while no batch breaks a rule.
use Rattle.std.proofs.Common.{◌≡◌, refl, ap, sym, ◌∙◌, subst, ℕ, zero, suc, ◌+◌, ◌<◌, ◌≤◌, ◌^◌, arith, Bool, true, false, true≢false, cond, List, [], ◌∷◌, ◌++◌, map, length, get_or, Some, None, ℤ, ltb, lit≤}
use Rattle.std.{specs.Prelude.option_map, specs.List.{AllByRecursion, range_with_len}, proofs.lemmas.Bool.{and_parts, ltb-false}, proofs.lemmas.List.map-id}
use Rattle.tick_model.{specs.declared.feed.Batch.Batch, specs.declared.feed.Block.Block, specs.declared.feed.Run.Run, specs.declared.plan.ColumnSpec.ColumnSpec, specs.declared.plan.Node.Node, specs.declared.table.PlainRow.PlainRow, specs.declared.table.PlainTable.PlainTable, specs.declared.update.FeedRule.TheVariants.{Update as ByUpdate, TooManyRows}, specs.Tables.{keys, IsRow, IsTable, no_table}, specs.Updates.Tick, specs.Evaluation.{is_source, source_number}, specs.LawfulRuns.{IsSourceRow, IsOpening, AreOpenings, sources_of, is_source_number, IsLawfulBlock, IsLawfulRun}, specs.Plans.columns_at, specs.Printable.{fit_columns, fits_kind}, specs.Rules.update_fault, specs.Sources.{IsBlock, HasTables, block_width, block_fault, too_many, record_of, blocks_fault, batch_fault, blocks_of, carry_on, carried, update_of, unchanged, opened, tick_at, after_block, after_blocks, source_ticks, sources, new_table}}
use Rattle.key_lists.{specs.Keys.IsRising, proofs.Every.{every_weaker, every-map, every-append, map_map}}
use Rattle.tick_laws.{specs.Bounded.{IsNodeTable, AreSourceTables}, specs.Checked.IsChecked, specs.Fitting.{FitsColumns, HasColumns}, proofs.Blocks.{block_checked, block_told, block_tick}, proofs.CheckedUpdates.{none_parts, map_none, keys-carry, keys_after-below, cells-carry}, proofs.LawfulPlans.columns_at-node, proofs.Paired.{no_node, Paired, paired_at, paired_each, paired_set, source_there}, proofs.SourceTicks.{get_every, source_new}}

-- the number of a source is that of a node
pub source_number_is : (nodes : List Node) (n : ℕ) → is_source_number nodes n ≡ true → (n < length nodes) × (is_source (get_or nodes n no_node) ≡ true)
source_number_is [] n h = absurd (true≢false (sym h))
source_number_is (node ∷ nodes) zero h = (omega arith, h)
source_number_is (node ∷ nodes) (suc n) h = let rest = source_number_is nodes n h in (omega (arith, rest.0), rest.1)

-- cells that fit columns are as many
pub length-fit_columns : (texts : ℕ) (columns : List ColumnSpec) (cells : List ℤ) → fit_columns texts columns cells ≡ true → length cells ≡ length columns
length-fit_columns texts [] [] h = refl
length-fit_columns texts [] (cell ∷ cells) h = absurd (true≢false (sym h))
length-fit_columns texts (column ∷ columns) [] h = absurd (true≢false (sym h))
length-fit_columns texts (column ∷ columns) (cell ∷ cells) h = ap suc (length-fit_columns texts columns cells (and_parts (fits_kind texts column.kind cell) (fit_columns texts columns cells) h).1)

-- a table of a source, at any step
pub record IsSourceState (columns : List ColumnSpec) (texts : ℕ) (table : PlainTable) : Type 0 where
  pub bounded : IsNodeTable (length columns) (2 ^ 40) table
  pub fitting : HasColumns columns texts table

fits_row : (columns : List ColumnSpec) (texts : ℕ) (row : PlainRow) → IsSourceRow columns texts row → FitsColumns columns texts row.cells
fits_row columns texts row r = record { kinds = r.cells; numbers = r.numbers }

is_row : (columns : List ColumnSpec) (texts : ℕ) (row : PlainRow) → IsSourceRow columns texts row → IsRow (length columns) row
is_row columns texts row r = record { key = let k = r.key in omega (arith, k); whole = length-fit_columns texts columns row.cells r.cells }

pub rising_range : (n count : ℕ) → AllByRecursion (λ key. n ≤ key) (range_with_len n count) × IsRising (range_with_len n count)
rising_range n zero = (tt, tt)
rising_range n (suc count) =
    let rest = rising_range (n + 1) count in (
      (omega arith, every_weaker (λ key. n + 1 ≤ key) (λ key. n ≤ key) (range_with_len (n + 1) count) (λ key h. omega (arith, h)) rest.0),
      (every_weaker (λ key. n + 1 ≤ key) (λ key. n < key) (range_with_len (n + 1) count) (λ key h. omega (arith, h)) rest.0, rest.1),
    )

opening_state : (columns : List ColumnSpec) (texts : ℕ) (table : PlainTable) → IsOpening columns texts table → IsSourceState columns texts table
opening_state columns texts table h = record {
  bounded = record {
    is_table = record {
      rows = subst (λ width. AllByRecursion (IsRow width) table.rows) (sym h.width) (every_weaker (IsSourceRow columns texts) (IsRow (length columns)) table.rows (is_row columns texts) h.rows);
      rising = subst IsRising (sym h.keys_are) (rising_range 0 (length table.rows)).1;
    };
    width_is = h.width;
    below = every-map (λ key. key < 2 ^ 40) (λ (row : PlainRow). row.key) table.rows (every_weaker (IsSourceRow columns texts) (λ row. row.key < 2 ^ 40) table.rows (λ row r. r.key) h.rows);
    count = h.count;
  };
  fitting = every_weaker (IsSourceRow columns texts) (λ row. FitsColumns columns texts row.cells) table.rows (fits_row columns texts) h.rows;
}

paired_openings : (texts : ℕ) (sources : List Node) (tables : List PlainTable) → AreOpenings sources texts tables → Paired (λ source table. IsSourceState source.columns texts table) sources tables
paired_openings texts [] [] h = tt
paired_openings texts [] (table ∷ tables) h = h
paired_openings texts (source ∷ sources) [] h = h
paired_openings texts (source ∷ sources) (table ∷ tables) h = (opening_state source.columns texts table h.0, paired_openings texts sources tables h.1)

-- a block of rows that fit the columns
record IsFittingBlock (columns : List ColumnSpec) (texts : ℕ) (block : Block) : Type 0 where
  added : AllByRecursion (IsSourceRow columns texts) block.added
  modified : AllByRecursion (IsSourceRow columns texts) block.modified
  added_rise : IsRising (keys block.added)
  modified_rise : IsRising (keys block.modified)

is_block : (columns : List ColumnSpec) (texts : ℕ) (block : Block) → IsFittingBlock columns texts block → IsBlock (length columns) block
is_block columns texts block l = record {
  added = every_weaker (IsSourceRow columns texts) (IsRow (length columns)) block.added (is_row columns texts) l.added;
  modified = every_weaker (IsSourceRow columns texts) (IsRow (length columns)) block.modified (is_row columns texts) l.modified;
  rising_added = l.added_rise;
  rising_modified = l.modified_rise;
}

few_rows : (rows : ℕ) → too_many rows ≡ None → rows ≤ 4194304
few_rows rows h = go (ltb 4194304 rows) refl h
  where
    go : (b : Bool) → ltb 4194304 rows ≡ b → cond b (Some (TooManyRows rows)) None ≡ None → rows ≤ 4194304
    go true e h = absurd (cc)
    go false e h = ltb-false 4194304 rows e

carried_state : (columns : List ColumnSpec) (texts : ℕ) (table : PlainTable) (block : Block) → IsSourceState columns texts table → IsFittingBlock columns texts block → block_fault table block ≡ None → IsSourceState columns texts (carried table block)
carried_state columns texts table block h l fine = record {
  bounded = record {
    is_table = (block_tick table block h.bounded.is_table (subst (λ width. IsBlock width block) (sym h.bounded.width_is) (is_block columns texts block l)) fine).new_table;
    width_is = h.bounded.width_is;
    below = subst (AllByRecursion (λ key. key < 2 ^ 40)) (sym (keys-carry (2 ^ 40) table (update_of block) (block.added ++ block.modified) checked (block_told block)))
        (keys_after-below (2 ^ 40) (keys table.rows) (update_of block) checked (2 ^ 40) (lit≤ tt)
        (every-map (λ key. key < 2 ^ 40) (λ (row : PlainRow). row.key) block.added (every_weaker (IsSourceRow columns texts) (λ row. row.key < 2 ^ 40) block.added (λ row r. r.key) l.added)));
    count = few_rows (length (carried table block).rows) (none_parts (option_map ByUpdate (update_fault (2 ^ 40) (keys table.rows) (update_of block))) (too_many (length (carried table block).rows)) fine).1;
  };
  fitting = cells-carry (2 ^ 40) table (update_of block) (block.added ++ block.modified) checked (block_told block) (FitsColumns columns texts) h.fitting
      (every-append (λ row. FitsColumns columns texts row.cells) block.added block.modified
      (every_weaker (IsSourceRow columns texts) (λ row. FitsColumns columns texts row.cells) block.added (fits_row columns texts) l.added)
      (every_weaker (IsSourceRow columns texts) (λ row. FitsColumns columns texts row.cells) block.modified (fits_row columns texts) l.modified));
}
  where
    checked : IsChecked (2 ^ 40) (keys table.rows) (update_of block)
    checked = block_checked table block fine l.added_rise

module _ (run : Run) (h : IsLawfulRun run) where
  abbrev nodes : List Node
  nodes = run.plan.nodes

  abbrev texts : ℕ
  texts = length run.texts

  abbrev State : Node → PlainTable → Type 0
  State source table = IsSourceState source.columns texts table

  abbrev Lawful : Block → Type 0
  Lawful = IsLawfulBlock run.plan texts

  -- what a lawful block changes is a source of the plan, and its rows fit its columns
  block_columns : (block : Block) → Lawful block → (source_number nodes block.table < length (sources_of nodes)) × (columns_at nodes block.table ≡ (get_or (sources_of nodes) (source_number nodes block.table) no_node).columns)
  block_columns block l =
      let is = source_number_is nodes block.table l.source in
      let there = source_there nodes block.table is.0 is.1 in
      (there.0, columns_at-node nodes no_node block.table is.0 ∙ ap (λ (node : Node). node.columns) (sym there.1))

  fitting_block : (block : Block) → Lawful block → IsFittingBlock (get_or (sources_of nodes) (source_number nodes block.table) no_node).columns texts block
  fitting_block block l =
      subst (λ columns. IsFittingBlock columns texts block) (block_columns block l).1
      (record { added = l.added; modified = l.modified; added_rise = l.added_rise; modified_rise = l.modified_rise })

  opening_states : Paired State (sources_of nodes) run.opening
  opening_states = paired_openings texts (sources_of nodes) run.opening h.opening

  -- the opening has tables, and the blocks whole rows
  pub lawful_tables : HasTables run
  lawful_tables = record {
    opening = paired_each State IsTable (λ source table s. s.bounded.is_table) (sources_of nodes) run.opening opening_states;
    blocks = every_weaker (λ (batch : Batch). AllByRecursion Lawful batch.blocks) (λ (batch : Batch). AllByRecursion (λ block. IsBlock (block_width run block) block) batch.blocks) run.batches
        (λ batch blocks. every_weaker Lawful (λ block. IsBlock (block_width run block) block) batch.blocks
        (λ block l. subst (λ width. IsBlock width block) (sym (paired_at State (sources_of nodes) run.opening (source_number nodes block.table) opening_states (block_columns block l).0).bounded.width_is)
        (is_block (get_or (sources_of nodes) (source_number nodes block.table) no_node).columns texts block (fitting_block block l))) blocks) h.batches;
  }

  blocks_states : (ticks : List Tick) (blocks : List Block) → Paired State (sources_of nodes) (map new_table ticks) → AllByRecursion Lawful blocks → blocks_fault run.plan ticks blocks ≡ None → Paired State (sources_of nodes) (map new_table (after_blocks run.plan ticks blocks))
  blocks_states ticks [] s l fine = s
  blocks_states ticks (block ∷ blocks) s l fine =
      let place = source_number nodes block.table in
      let parts = none_parts (option_map (λ rule. (record_of block rule, rule)) (block_fault (tick_at ticks place).new block)) (blocks_fault run.plan (after_block run.plan ticks block) blocks) fine in
      let unbroken = map_none (λ rule. (record_of block rule, rule)) (block_fault (tick_at ticks place).new block) parts.0 in
      blocks_states (after_block run.plan ticks block) blocks
      (paired_set State (sources_of nodes) ticks place (carry_on (tick_at ticks place) block) s
      (λ less. carried_state (get_or (sources_of nodes) place no_node).columns texts (tick_at ticks place).new block
      (subst (State (get_or (sources_of nodes) place no_node)) (sym (source_new ticks place)) (paired_at State (sources_of nodes) (map new_table ticks) place s less))
      (fitting_block block l.0) unbroken))
      l.1 parts.1

  source_states : (step : ℕ) → ((s : ℕ) → s ≤ step → batch_fault run s ≡ None) → Paired State (sources_of nodes) (sources run step)
  source_states zero fine = subst (Paired State (sources_of nodes)) (sym (map_map new_table opened run.opening ∙ map-id run.opening)) opening_states
  source_states (suc step) fine =
      blocks_states (map (λ (tick : Tick). unchanged tick.new) (source_ticks run step)) (blocks_of run (suc step))
      (subst (Paired State (sources_of nodes)) (sym (map_map new_table (λ (tick : Tick). unchanged tick.new) (source_ticks run step))) (source_states step (λ s below. fine s (omega (arith, below)))))
      (get_every (AllByRecursion Lawful) [] (map (λ (batch : Batch). batch.blocks) run.batches) tt (every-map (AllByRecursion Lawful) (λ (batch : Batch). batch.blocks) run.batches h.batches) step)
      (ap (λ ticks. blocks_fault run.plan ticks (blocks_of run (suc step))) (sym (map_map unchanged new_table (source_ticks run step))) ∙ fine (suc step) (omega arith))

  source_tables : (sources : List Node) (tables : List PlainTable) → Paired State sources tables → AreSourceTables sources tables
  source_tables [] [] s = tt
  source_tables [] (table ∷ tables) s = s
  source_tables (source ∷ sources) [] s = s
  source_tables (source ∷ sources) (table ∷ tables) s = (s.0.bounded, source_tables sources tables s.1)

  pub sources_bounded : (step : ℕ) → ((s : ℕ) → s ≤ step → batch_fault run s ≡ None) → AreSourceTables (sources_of nodes) (sources run step)
  sources_bounded step fine = source_tables (sources_of nodes) (sources run step) (source_states step fine)

  -- the state of a source at a step
  pub source_fits : (step : ℕ) → ((s : ℕ) → s ≤ step → batch_fault run s ≡ None) → (n : ℕ) → n < length nodes → is_source (get_or nodes n no_node) ≡ true
      → IsSourceState (get_or nodes n no_node).columns texts (get_or (sources run step) (source_number nodes n) no_table)
  source_fits step fine n less is =
      let there = source_there nodes n less is in
      subst (λ (node : Node). State node (get_or (sources run step) (source_number nodes n) no_table)) there.1 (paired_at State (sources_of nodes) (sources run step) (source_number nodes n) (source_states step fine) there.0)
