-- The sources of a batch, of which each takes its blocks in turn.
use Rattle.std.proofs.Common.{◌≡◌, refl, ap, ap₂, sym, ◌∙◌, subst, ℕ, zero, suc, ◌<◌, ◌≤◌, ◌*◌, ◌^◌, arith, List, [], ◌∷◌, ◌++◌, map, length, get_or, set, take, drop, ◌+◌, None}
use Rattle.std.{specs.Prelude.sum_by, specs.List.AllByRecursion, proofs.Math.ListN.drop_of_length-le, proofs.lemmas.List.{append-nil, length-map, get_or-map}, proofs.lemmas.List.Sums.{sum_by-drop_more, sum_by-set, sum_by_more_le}}
use Rattle.key_lists.{proofs.Every.map_map, proofs.Parts.map_set}
use Rattle.tick_model.{specs.declared.feed.Block.Block, specs.declared.plan.Plan.Plan, specs.declared.table.PlainTable.PlainTable, specs.Evaluation.source_number, specs.LawfulRuns.{IsLawfulBlock, sources_of}, specs.Plans.columns_at, specs.Sources.{IsBlock, after_blocks, block_fault, blocks_fault, carry_on, unchanged, update_of}, specs.Tables.keys, specs.Updates.Tick}
use Rattle.source_changes.{specs.declared.faults.BatchFault.BatchFault, specs.declared.taking.TakenBlocks.TakenBlocks, specs.Faults.{IsFault, record_fault}, specs.Reads.{block_reads, read_rows, step_reads}, specs.Stepping.{Stepping, ticked}, specs.Taking.{IsTaking, taking}, proofs.Walked.{AreSources, below_at, fault_at, faults_next, sources_next, steps_in, ticks_next, whole_at, width_at}}

pub every_set : {X : Type 0} (P : X → Type 0) (xs : List X) (place : ℕ) (x : X) → AllByRecursion P xs → P x → AllByRecursion P (set xs place x)
every_set P [] place x h p = tt
every_set P (y ∷ ys) zero x h p = (p, h.1)
every_set P (y ∷ ys) (suc place) x h p = (h.0, every_set P ys place x h.1 p)

-- where the source of the block at an index is
pub steps_in_turn : (plan : Plan) (texts : ℕ) (blocks : List Block) (i : ℕ) (block : Block) (sources : List TakenBlocks) (p : ℕ) → AllByRecursion (IsLawfulBlock plan texts) blocks → block ≡ get_or blocks i block → i < length blocks
    → AreSources (sources_of plan.nodes) (map taking sources) → p ≡ source_number plan.nodes block.table → p < length sources
steps_in_turn plan texts blocks i block sources p lawful is less h here =
    let there = steps_in plan texts blocks i block (map taking sources) p lawful is less h here in
    let count = length-map sources taking in
    omega (arith, there, count)

-- the block at an index, and its source
module _ (plan : Plan) (texts : ℕ) (blocks : List Block) (i : ℕ) (block : Block) (sources : List TakenBlocks) (d : TakenBlocks) (p : ℕ)
    (lawful : AllByRecursion (IsLawfulBlock plan texts) blocks) (is : block ≡ get_or blocks i block) (less : i < length blocks) (h : AreSources (sources_of plan.nodes) (map taking sources)) (here : p ≡ source_number plan.nodes block.table) where
  abbrev steps : List Stepping
  steps = map taking sources

  abbrev source : TakenBlocks
  source = get_or sources p d

  pub bound : p < length sources
  bound = steps_in_turn plan texts blocks i block sources p lawful is less h here

  same : get_or steps p (taking d) ≡ taking source
  same = get_or-map taking sources p d (taking d) bound

  pub below_there : AllByRecursion (λ key. key < 2 ^ 40) (keys (ticked (taking source)).new.rows)
  below_there = subst (λ step. AllByRecursion (λ key. key < 2 ^ 40) (keys (ticked step).new.rows)) same (below_at plan texts blocks i block steps (taking d) p lawful is less h here)

  pub whole_there : IsBlock (taking source).old.width block
  whole_there = subst (λ (step : Stepping). IsBlock step.old.width block) same (whole_at plan texts blocks i block steps (taking d) p lawful is less h here)

  pub fault_there : (fault : BatchFault) → IsFault (record_fault block (block_fault (ticked (taking source)).new block)) fault → IsFault (blocks_fault plan (map ticked steps) (drop i blocks)) fault
  fault_there fault f =
      fault_at plan texts blocks i block steps (taking d) p lawful is less h here fault
      (subst (λ step. IsFault (record_fault block (block_fault (ticked step).new block)) fault) (sym same) f)

  width_there : (taking source).old.width ≡ length (columns_at plan.nodes block.table)
  width_there = ap (λ (step : Stepping). step.old.width) (sym same) ∙ width_at plan texts blocks i block steps (taking d) p lawful is less h here

  -- what is read of the sources so far, and of the blocks that are still to come
  pub reads_follow : (new : TakenBlocks) (most : ℕ) → step_reads (taking new) ≤ step_reads (taking source) + (taking source).old.width * read_rows (update_of block)
      → sum_by (λ (step : TakenBlocks). step_reads (taking step)) sources + sum_by (block_reads plan) (drop i blocks) ≤ most
      → sum_by (λ (step : TakenBlocks). step_reads (taking step)) (set sources p new) + sum_by (block_reads plan) (drop (i + 1) blocks) ≤ most
  reads_follow new most few so_far =
      omega (
        arith,
        few,
        so_far,
        sum_by-set (λ (step : TakenBlocks). step_reads (taking step)) sources p new d bound,
        sum_by-drop_more (block_reads plan) blocks i block less,
        ap (λ width. width * read_rows (update_of block)) width_there,
        ap (block_reads plan) is,
      )

  module _ (new : TakenBlocks) (on : ticked (taking new) ≡ carry_on (ticked (taking source)) block) (takes : IsTaking new) (fine : block_fault (ticked (taking source)).new block ≡ None) where
    step_on : ticked (taking new) ≡ carry_on (ticked (get_or steps p (taking d))) block
    step_on = on ∙ ap (λ step. carry_on (ticked step) block) (sym same)

    step_fine : block_fault (ticked (get_or steps p (taking d))).new block ≡ None
    step_fine = ap (λ step. block_fault (ticked step).new block) same ∙ fine

    set_is : map taking (set sources p new) ≡ set steps p (taking new)
    set_is = map_set taking sources p new

    pub sources_follow : AreSources (sources_of plan.nodes) (map taking (set sources p new))
    sources_follow =
        subst (AreSources (sources_of plan.nodes)) (sym set_is)
        (sources_next plan texts blocks i block steps (taking d) p lawful is less h here (taking new) step_on takes.stepping step_fine)

    pub ticks_follow : after_blocks plan (map ticked (map taking (set sources p new))) (drop (i + 1) blocks) ≡ after_blocks plan (map ticked steps) (drop i blocks)
    ticks_follow =
        ap (λ others. after_blocks plan (map ticked others) (drop (i + 1) blocks)) set_is
        ∙ ticks_next plan texts blocks i block steps (taking d) p lawful is less h here (taking new) step_on takes.stepping step_fine

    pub faults_follow : blocks_fault plan (map ticked (map taking (set sources p new))) (drop (i + 1) blocks) ≡ blocks_fault plan (map ticked steps) (drop i blocks)
    faults_follow =
        ap (λ others. blocks_fault plan (map ticked others) (drop (i + 1) blocks)) set_is
        ∙ faults_next plan texts blocks i block steps (taking d) p lawful is less h here (taking new) step_on takes.stepping step_fine

-- before the first block
pub news_follow : {T : Type 0} (f : T → PlainTable) (tables : List T) (sources : List TakenBlocks) → map (λ source. ticked (taking source)) sources ≡ map (λ table. unchanged (f table)) tables → map (λ source. (ticked (taking source)).new) sources ≡ map f tables
news_follow f tables sources e =
    sym (map_map (λ (tick : Tick). tick.new) (λ source. ticked (taking source)) sources)
    ∙ ap (map (λ (tick : Tick). tick.new)) e
    ∙ map_map (λ (tick : Tick). tick.new) (λ table. unchanged (f table)) tables

-- where one more of some is read for, no more is read than for all of them
pub reads_within : {X : Type 0} (f : X → ℕ) (all yielded : List X) (x : X) (first so_far more : ℕ) → map (λ y. y) yielded ≡ take (length yielded) all → length yielded < length all → x ≡ get_or all (length yielded) x → so_far ≤ first + sum_by f yielded → more ≤ so_far + f x → more ≤ first + sum_by f all
reads_within {X = X} f all yielded x first so_far more are less is h e = omega (arith, h, e, most)
  where
    own : (xs : List X) → map (λ y. y) xs ≡ xs
    own [] = refl
    own (y ∷ ys) = ap (λ rest. y ∷ rest) (own ys)

    most : sum_by f yielded + f x ≤ sum_by f all
    most = omega (arith, ap (sum_by f) (sym (own yielded) ∙ are), ap f is, sum_by_more_le f all (length yielded) x less)

-- a list that was written over as a whole
pub whole : {X : Type 0} (n : ℕ) (new items : List X) → length new ≡ length items → n ≡ length items → take n (new ++ drop (length new) items) ≡ new
whole {X = X} n new items same len =
    ap₂ (λ (n k : ℕ). take n (new ++ drop k items)) (len ∙ sym same) same
    ∙ ap (λ rest. take (length new) (new ++ rest)) (drop_of_length-le items (let all : length items ≤ length items = omega arith in all))
    ∙ ap (take (length new)) (append-nil new)
    ∙ take_all new
  where
    take_all : (xs : List X) → take (length xs) xs ≡ xs
    take_all [] = refl
    take_all (x ∷ xs) = ap (λ rest. x ∷ rest) (take_all xs)
