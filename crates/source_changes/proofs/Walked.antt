-- The blocks of a batch, one after the other, over the steps of all sources.
use Rattle.std.proofs.Common.{◌≡◌, refl, ap, sym, ◌∙◌, subst, ℕ, zero, suc, ◌<◌, ◌≤◌, ◌^◌, arith, List, [], ◌∷◌, ◌++◌, map, length, get_or, set, None, lit≤, drop, ◌+◌}
use Rattle.std.{specs.List.AllByRecursion, specs.Option.option_or, proofs.lemmas.List.{drop_more, get_or_default, get_or-map}}
use Rattle.key_lists.{proofs.Every.{every_weaker, every-map}, proofs.Parts.{map_set, every_at}}
use Rattle.tick_laws.{specs.Bounded.AreSourceTables, proofs.Blocks.{block_checked, block_told}, proofs.CheckedUpdates.{keys-carry, keys_after-below}, proofs.LawfulPlans.columns_at-node, proofs.LawfulSources.{length-fit_columns, source_number_is}, proofs.Paired.{no_node, source_there}}
use Rattle.tick_model.{specs.declared.feed.Block.Block, specs.declared.plan.Node.Node, specs.declared.plan.Plan.Plan, specs.declared.table.PlainRow.PlainRow, specs.declared.table.PlainTable.PlainTable, specs.Evaluation.source_number, specs.LawfulRuns.{IsLawfulBlock, IsSourceRow, sources_of}, specs.Plans.columns_at, specs.Sources.{IsBlock, after_block, after_blocks, block_fault, blocks_fault, carry_on, carried, no_tick, tick_at, update_of}, specs.Tables.{IsRow, keys}, specs.Updates.Tick}
use Rattle.source_changes.{specs.declared.faults.BatchFault.TheVariants.{Memory, Rule}, specs.declared.faults.BatchFault.BatchFault, specs.Blocks.IsReadable, specs.Faults.{IsFault, record_fault}, specs.Stepping.{IsStepping, Stepping, ticked}}

-- a source whose step is a tick's, with its width and its bound
pub record IsSource (source : Node) (step : Stepping) : Type 0 where
  pub stepping : IsStepping step
  pub width_is : step.old.width ≡ length source.columns
  pub below : AllByRecursion (λ key. key < 2 ^ 40) (keys (ticked step).new.rows)

abbrev pub AreSources : List Node → List Stepping → Type 0
AreSources [] [] = Unit {0}
AreSources [] (step ∷ steps) = ⊥
AreSources (source ∷ sources) [] = ⊥
AreSources (source ∷ sources) (step ∷ steps) = IsSource source step × AreSources sources steps

pub sources_from : (sources : List Node) (steps : List Stepping) → AllByRecursion IsStepping steps → AreSourceTables sources (map (λ step. (ticked step).new) steps) → AreSources sources steps
sources_from [] [] s t = tt
sources_from [] (step ∷ steps) s t = t
sources_from (source ∷ sources) [] s t = t
sources_from (source ∷ sources) (step ∷ steps) s t = (record { stepping = s.0; width_is = t.0.width_is; below = t.0.below }, sources_from sources steps s.1 t.1)

pub count_is : (sources : List Node) (steps : List Stepping) → AreSources sources steps → length steps ≡ length sources
count_is [] [] h = refl
count_is [] (step ∷ steps) h = absurd h
count_is (source ∷ sources) [] h = absurd h
count_is (source ∷ sources) (step ∷ steps) h = ap suc (count_is sources steps h.1)

pub source_at : (sources : List Node) (steps : List Stepping) (place : ℕ) (d : Stepping) → AreSources sources steps → place < length sources → IsSource (get_or sources place no_node) (get_or steps place d)
source_at [] steps place d h less = absurd (omega (arith, less))
source_at (source ∷ sources) [] place d h less = absurd h
source_at (source ∷ sources) (step ∷ steps) zero d h less = h.0
source_at (source ∷ sources) (step ∷ steps) (suc place) d h less = source_at sources steps place d h.1 (omega (arith, less))

pub sources_set : (sources : List Node) (steps : List Stepping) (place : ℕ) (step : Stepping) → AreSources sources steps → IsSource (get_or sources place no_node) step → AreSources sources (set steps place step)
sources_set [] [] place step h s = h
sources_set [] (x ∷ steps) place step h s = absurd h
sources_set (source ∷ sources) [] place step h s = absurd h
sources_set (source ∷ sources) (x ∷ steps) zero step h s = (s, h.1)
sources_set (source ∷ sources) (x ∷ steps) (suc place) step h s = (h.0, sources_set sources steps place step h.1 s)

-- a lawful block can be read, and is of a source's width
module _ (plan : Plan) (texts : ℕ) (block : Block) (l : IsLawfulBlock plan texts block) where
  abbrev place : ℕ
  place = source_number plan.nodes block.table

  abbrev source : Node
  source = get_or (sources_of plan.nodes) place no_node

  pub node_there : block.table < length plan.nodes
  node_there = (source_number_is plan.nodes block.table l.source).0

  pub source_is_there : place < length (sources_of plan.nodes)
  source_is_there = let is = source_number_is plan.nodes block.table l.source in (source_there plan.nodes block.table is.0 is.1).0

  columns_are : columns_at plan.nodes block.table ≡ source.columns
  columns_are =
      let is = source_number_is plan.nodes block.table l.source in
      columns_at-node plan.nodes no_node block.table is.0 ∙ ap (λ (node : Node). node.columns) (sym (source_there plan.nodes block.table is.0 is.1).1)

  rows_of : (rows : List PlainRow) → AllByRecursion (IsSourceRow (columns_at plan.nodes block.table) texts) rows → AllByRecursion (IsRow (length source.columns)) rows
  rows_of rows h =
      every_weaker (IsSourceRow (columns_at plan.nodes block.table) texts) (IsRow (length source.columns)) rows
      (λ row r. record { key = let k = r.key in omega (arith, k); whole = length-fit_columns texts (columns_at plan.nodes block.table) row.cells r.cells ∙ ap length columns_are }) h

  below_of : (bound : ℕ) → 2 ^ 40 ≤ bound → (rows : List PlainRow) → AllByRecursion (IsSourceRow (columns_at plan.nodes block.table) texts) rows → AllByRecursion (λ key. key < bound) (keys rows)
  below_of bound most rows h =
      every-map (λ key. key < bound) (λ (row : PlainRow). row.key) rows
      (every_weaker (IsSourceRow (columns_at plan.nodes block.table) texts) (λ row. row.key < bound) rows (λ row r. let k = r.key in omega (arith, k, most)) h)

  pub readable : IsReadable block
  readable = record {
    removed = l.removed;
    shifts = l.shifts;
    ranges = l.ranges;
    added = record { rising = l.added_rise; small = below_of (2 ^ 62) (lit≤ tt) block.added l.added };
    modified = record { rising = l.modified_rise; small = below_of (2 ^ 62) (lit≤ tt) block.modified l.modified };
    records = l.records;
  }

  pub is_block : IsBlock (length source.columns) block
  is_block = record { added = rows_of block.added l.added; modified = rows_of block.modified l.modified; rising_added = l.added_rise; rising_modified = l.modified_rise }

  -- the keys of the source stay below the bound
  pub stays_below : (table : PlainTable) → block_fault table block ≡ None → AllByRecursion (λ key. key < 2 ^ 40) (keys (carried table block).rows)
  stays_below table fine =
      let checked = block_checked table block fine l.added_rise in
      subst (AllByRecursion (λ key. key < 2 ^ 40)) (sym (keys-carry (2 ^ 40) table (update_of block) (block.added ++ block.modified) checked (block_told block)))
      (keys_after-below (2 ^ 40) (keys table.rows) (update_of block) checked (2 ^ 40) (lit≤ tt) (below_of (2 ^ 40) (lit≤ tt) block.added l.added))

-- a block that is taken by the step of its source
module _ (plan : Plan) (steps : List Stepping) (block : Block) (step : Stepping) where
  abbrev at : ℕ
  at = source_number plan.nodes block.table

  tick_there : at < length steps → get_or steps at step ≡ step → tick_at (map ticked steps) at ≡ ticked step
  tick_there less is = get_or-map ticked steps at step no_tick less ∙ ap ticked is

  pub fault_found : at < length steps → get_or steps at step ≡ step → (rest : List Block) (fault : BatchFault) → IsFault (record_fault block (block_fault (ticked step).new block)) fault → IsFault (blocks_fault plan (map ticked steps) (block ∷ rest)) fault
  fault_found less is rest Memory h = tt
  fault_found less is rest (Rule number rule) h =
      ap (λ (tick : Tick). option_or (record_fault block (block_fault tick.new block)) (blocks_fault plan (after_block plan (map ticked steps) block) rest)) (tick_there less is)
      ∙ ap (λ o. option_or o (blocks_fault plan (after_block plan (map ticked steps) block) rest)) h

  module _ (new : Stepping) (less : at < length steps) (is : get_or steps at step ≡ step) (on : ticked new ≡ carry_on (ticked step) block) where
    pub after_is : after_block plan (map ticked steps) block ≡ map ticked (set steps at new)
    after_is =
        ap (λ tick. set (map ticked steps) at (carry_on tick block)) (tick_there less is)
        ∙ ap (set (map ticked steps) at) (sym on)
        ∙ sym (map_set ticked steps at new)

    pub fault_goes_on : block_fault (ticked step).new block ≡ None → (rest : List Block) → blocks_fault plan (map ticked steps) (block ∷ rest) ≡ blocks_fault plan (map ticked (set steps at new)) rest
    fault_goes_on fine rest =
        ap (λ (tick : Tick). option_or (record_fault block (block_fault tick.new block)) (blocks_fault plan (after_block plan (map ticked steps) block) rest)) (tick_there less is)
        ∙ ap (λ o. option_or (record_fault block o) (blocks_fault plan (after_block plan (map ticked steps) block) rest)) fine
        ∙ ap (λ ticks. blocks_fault plan ticks rest) after_is

    pub source_on : (texts : ℕ) → IsLawfulBlock plan texts block → AreSources (sources_of plan.nodes) steps → IsStepping new → block_fault (ticked step).new block ≡ None → AreSources (sources_of plan.nodes) (set steps at new)
    source_on texts l h stepping fine =
        let was = source_at (sources_of plan.nodes) steps at step h (source_is_there plan texts block l) in
        sources_set (sources_of plan.nodes) steps at new h
        (record {
          stepping = stepping;
          width_is = ap (λ (tick : Tick). tick.old.width) on ∙ ap (λ (s : Stepping). s.old.width) (sym is) ∙ was.width_is;
          below = subst (λ (tick : Tick). AllByRecursion (λ key. key < 2 ^ 40) (keys tick.new.rows)) (sym on) (stays_below plan texts block l (ticked step).new fine);
        })

-- where its node and its step are
pub node_at : (plan : Plan) (texts : ℕ) (blocks : List Block) (i : ℕ) (block : Block) → AllByRecursion (IsLawfulBlock plan texts) blocks → block ≡ get_or blocks i block → i < length blocks → block.table < length plan.nodes
node_at plan texts blocks i block lawful is less = node_there plan texts block (subst (IsLawfulBlock plan texts) (sym is) (every_at (IsLawfulBlock plan texts) blocks i block less lawful))

pub readable_at : (plan : Plan) (texts : ℕ) (blocks : List Block) (i : ℕ) (block : Block) → AllByRecursion (IsLawfulBlock plan texts) blocks → block ≡ get_or blocks i block → i < length blocks → IsReadable block
readable_at plan texts blocks i block lawful is less = readable plan texts block (subst (IsLawfulBlock plan texts) (sym is) (every_at (IsLawfulBlock plan texts) blocks i block less lawful))

pub steps_in : (plan : Plan) (texts : ℕ) (blocks : List Block) (i : ℕ) (block : Block) (steps : List Stepping) (p : ℕ) → AllByRecursion (IsLawfulBlock plan texts) blocks → block ≡ get_or blocks i block → i < length blocks
    → AreSources (sources_of plan.nodes) steps → p ≡ source_number plan.nodes block.table → p < length steps
steps_in plan texts blocks i block steps p lawful is less h here =
    let there = source_is_there plan texts block (subst (IsLawfulBlock plan texts) (sym is) (every_at (IsLawfulBlock plan texts) blocks i block less lawful)) in
    let count = count_is (sources_of plan.nodes) steps h in
    omega (arith, count, there, here)

-- the block at an index, and the step of its source
module _ (plan : Plan) (texts : ℕ) (blocks : List Block) (i : ℕ) (block : Block) (steps : List Stepping) (d : Stepping) (p : ℕ)
    (lawful : AllByRecursion (IsLawfulBlock plan texts) blocks) (is : block ≡ get_or blocks i block) (less : i < length blocks) (h : AreSources (sources_of plan.nodes) steps) (here : p ≡ source_number plan.nodes block.table) where
  abbrev step_at : Stepping
  step_at = get_or steps p d

  l : IsLawfulBlock plan texts block
  l = subst (IsLawfulBlock plan texts) (sym is) (every_at (IsLawfulBlock plan texts) blocks i block less lawful)

  pub steps_bound : p < length steps
  steps_bound = steps_in plan texts blocks i block steps p lawful is less h here

  source_here : IsSource (get_or (sources_of plan.nodes) p no_node) step_at
  source_here = source_at (sources_of plan.nodes) steps p d h (let there = source_is_there plan texts block l in omega (arith, there, here))

  pub below_at : AllByRecursion (λ key. key < 2 ^ 40) (keys (ticked step_at).new.rows)
  below_at = source_here.below

  pub whole_at : IsBlock step_at.old.width block
  whole_at = subst (λ width. IsBlock width block) (ap (λ q. length (get_or (sources_of plan.nodes) q no_node).columns) (sym here) ∙ sym source_here.width_is) (is_block plan texts block l)

  -- the width of the source is what the plan says of the block's
  pub width_at : step_at.old.width ≡ length (columns_at plan.nodes block.table)
  width_at =
      source_here.width_is ∙ ap (λ q. length (get_or (sources_of plan.nodes) q no_node).columns) here ∙ ap length (sym (columns_are plan texts block l))

  seam : drop i blocks ≡ block ∷ drop (i + 1) blocks
  seam = drop_more blocks i block less ∙ ap (λ first. first ∷ drop (i + 1) blocks) (sym is)

  place_in : source_number plan.nodes block.table < length steps
  place_in = subst (λ q. q < length steps) here steps_bound

  is_step : get_or steps (source_number plan.nodes block.table) step_at ≡ step_at
  is_step = ap (λ q. get_or steps q step_at) (sym here) ∙ get_or_default steps p step_at d steps_bound

  pub fault_at : (fault : BatchFault) → IsFault (record_fault block (block_fault (ticked step_at).new block)) fault → IsFault (blocks_fault plan (map ticked steps) (drop i blocks)) fault
  fault_at fault f = subst (λ rest. IsFault (blocks_fault plan (map ticked steps) rest) fault) (sym seam) (fault_found plan steps block step_at place_in is_step (drop (i + 1) blocks) fault f)

  module _ (new : Stepping) (on : ticked new ≡ carry_on (ticked step_at) block) (stepping : IsStepping new) (fine : block_fault (ticked step_at).new block ≡ None) where
    pub sources_next : AreSources (sources_of plan.nodes) (set steps p new)
    sources_next = subst (λ q. AreSources (sources_of plan.nodes) (set steps q new)) (sym here) (source_on plan steps block step_at new place_in is_step on texts l h stepping fine)

    pub ticks_next : after_blocks plan (map ticked (set steps p new)) (drop (i + 1) blocks) ≡ after_blocks plan (map ticked steps) (drop i blocks)
    ticks_next =
        sym (ap (after_blocks plan (map ticked steps)) seam
        ∙ ap (λ ticks. after_blocks plan ticks (drop (i + 1) blocks)) (after_is plan steps block step_at new place_in is_step on)
        ∙ ap (λ q. after_blocks plan (map ticked (set steps q new)) (drop (i + 1) blocks)) (sym here))

    pub faults_next : blocks_fault plan (map ticked (set steps p new)) (drop (i + 1) blocks) ≡ blocks_fault plan (map ticked steps) (drop i blocks)
    faults_next =
        sym (ap (blocks_fault plan (map ticked steps)) seam
        ∙ fault_goes_on plan steps block step_at new place_in is_step on fine (drop (i + 1) blocks)
        ∙ ap (λ q. blocks_fault plan (map ticked (set steps q new)) (drop (i + 1) blocks)) (sym here))
