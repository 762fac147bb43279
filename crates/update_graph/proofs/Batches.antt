-- What a batch changes of the sources, from one step to the next.
use Rattle.std.proofs.Common.{◌≡◌, refl, ap, ap₂, sym, ◌∙◌, subst, add-one, ℕ, zero, suc, ◌+◌, ◌<◌, arith, inl, inr, List, [], ◌∷◌, map, length, get_or, None}
use Rattle.std.{specs.Borrow.Bor, proofs.Math.ListN.get_or-map as get_or_map, proofs.lemmas.Bool.cases_lt, proofs.lemmas.List.{get_or-map, length-map, map-id}}
use Rattle.key_lists.proofs.Every.{map_map}
use Rattle.table_operator.specs.Inputs.{news, tables}
use Rattle.tick_laws.{specs.Bounded.AreSourceTables, specs.Reached.IsReached, proofs.LawfulSources.sources_bounded, proofs.SourceTicks.source_old}
use Rattle.tick_model.{specs.declared.feed.Batch.Batch, specs.declared.feed.Run.Run, specs.declared.plan.Node.Node, specs.declared.table.PlainTable.PlainTable, specs.Tables.{no_table, keys}, specs.LawfulRuns.{IsLawfulRun, sources_of}, specs.Sources.{after_blocks, batch_fault, blocks_fault, blocks_of, new_table, no_tick, opened, source_ticks, sources, tick_at, unchanged}, specs.Updates.Tick}
use Rattle.tick_table.{specs.Exact.ticking, specs.Ticking.Ticking}
use Rattle.update_graph.{specs.Entered.IsEntered, specs.Graphs.sources_shown}

-- at the opening
pub entered_first : (run : Run) → IsLawfulRun run → IsEntered run 0
entered_first run h = record {
  lawful = h;
  within = omega arith;
  batches = λ s below. let first : s ≡ 0 = omega (arith, below) in subst (λ s. batch_fault run s ≡ None) (sym first) refl;
  nodes = λ s less. absurd (omega (arith, less));
}

pub first_sources : (run : Run) → sources run 0 ≡ run.opening
first_sources run = map_map new_table opened run.opening ∙ map-id run.opening

-- at the next step
pub entered_next : (run : Run) (step next : ℕ) → next ≡ step + 1 → IsLawfulRun run → IsReached run step → step < length run.batches → batch_fault run next ≡ None → IsEntered run next
entered_next run step next is h r within fine = record {
  lawful = h;
  within = omega (arith, within, is);
  batches = λ s below. elim (cases_lt s next) [
    | inl less ↦ r.batches s (omega (arith, less, is))
    | inr more ↦ let last : s ≡ next = omega (arith, below, more) in subst (λ s. batch_fault run s ≡ None) (sym last) fine
  ];
  nodes = λ s less. r.nodes s (omega (arith, less, is));
}

-- the tables that are shown of sources are the sources
pub sources_new : (run : Run) (step : ℕ) → news (sources_shown run step) ≡ sources run step
sources_new run step = map_map (λ (t : Ticking). t.new) ticking (source_ticks run step)

as_many : (sources : List Node) (tables : List PlainTable) → AreSourceTables sources tables → length tables ≡ length sources
as_many [] [] h = refl
as_many [] (table ∷ tables) h = absurd h
as_many (source ∷ sources) [] h = absurd h
as_many (source ∷ sources) (table ∷ tables) h = ap suc (as_many sources tables h.1)

same_lists : {X : Type 0} (d : X) (xs ys : List X) → length xs ≡ length ys → ((k : ℕ) → get_or xs k d ≡ get_or ys k d) → xs ≡ ys
same_lists d [] [] l h = refl
same_lists d [] (y ∷ ys) l h = absurd (omega (arith, l))
same_lists d (x ∷ xs) [] l h = absurd (omega (arith, l))
same_lists d (x ∷ xs) (y ∷ ys) l h = ap₂ (λ z zs. z ∷ zs) (h zero) (same_lists d xs ys (omega (arith, l)) (λ k. h (suc k)))

-- the changes of the next step begin with the tables of this one
pub sources_old : (run : Run) (step next : ℕ) → next ≡ step + 1 → IsEntered run next → map (λ (tick : Tick). tick.old) (source_ticks run next) ≡ sources run step
sources_old run step next is e =
    same_lists no_table (map (λ (tick : Tick). tick.old) (source_ticks run next)) (sources run step)
    (let a = length-map (source_ticks run next) (λ (tick : Tick). tick.old) in
    let b = length-map (source_ticks run next) new_table in
    let c = as_many (sources_of run.plan.nodes) (sources run next) (sources_bounded run e.lawful next e.batches) in
    let d = as_many (sources_of run.plan.nodes) (sources run step) (sources_bounded run e.lawful step (λ s below. e.batches s (omega (arith, below, is)))) in
    omega arith)
    (λ k. get_or_map (λ (tick : Tick). tick.old) (source_ticks run next) k no_tick ∙ ap (λ s. (tick_at (source_ticks run s) k).old) (is ∙ add-one step) ∙ source_old run step k)

-- what is known of the sources by references
module _ (run : Run) (step : ℕ) (known : List (Bor Ticking)) (own : List Ticking) (same : map (λ (b : Bor Ticking). b.now) known ≡ own) (shown : own ≡ sources_shown run step) where
  pub known_are : map (λ (b : Bor Ticking). b.now.new) known ≡ sources run step
  known_are = sym (map_map (λ (t : Ticking). t.new) (λ (b : Bor Ticking). b.now) known) ∙ ap news (same ∙ shown) ∙ sources_new run step

  pub known_keys : map (λ (b : Bor Ticking). keys b.now.new.rows) known ≡ map (λ (table : PlainTable). keys table.rows) (sources run step)
  known_keys = sym (map_map (λ (table : PlainTable). keys table.rows) (λ (b : Bor Ticking). b.now.new) known) ∙ ap (map (λ (table : PlainTable). keys table.rows)) known_are

  abbrev begun : List Tick
  begun = map (λ (b : Bor Ticking). unchanged b.now.new) known

  begun_are : begun ≡ map unchanged (sources run step)
  begun_are = sym (map_map unchanged (λ (b : Bor Ticking). b.now.new) known) ∙ ap (map unchanged) known_are

  module _ (next : ℕ) (is : next ≡ step + 1) (within : step < length run.batches) (batch : Batch) (there : batch ≡ get_or run.batches step batch) where
    blocks_are : blocks_of run (suc step) ≡ batch.blocks
    blocks_are = get_or-map (λ (b : Batch). b.blocks) run.batches step batch [] within ∙ ap (λ (b : Batch). b.blocks) (sym there)

    pub fault_is : batch_fault run next ≡ blocks_fault run.plan begun batch.blocks
    fault_is = ap (batch_fault run) (is ∙ add-one step) ∙ ap₂ (blocks_fault run.plan) (sym begun_are) blocks_are

    pub ticks_are : source_ticks run next ≡ after_blocks run.plan begun batch.blocks
    ticks_are =
        ap (source_ticks run) (is ∙ add-one step)
        ∙ ap₂ (after_blocks run.plan) (sym (map_map unchanged new_table (source_ticks run step)) ∙ sym begun_are) blocks_are

    pub keys_after : map (λ (tick : Tick). keys tick.new.rows) (after_blocks run.plan begun batch.blocks) ≡ map (λ (table : PlainTable). keys table.rows) (sources run next)
    keys_after =
        ap (map (λ (tick : Tick). keys tick.new.rows)) (sym ticks_are)
        ∙ sym (map_map (λ (table : PlainTable). keys table.rows) new_table (source_ticks run next))
