-- The published tables at a step that is reached, one after the other.
use Rattle.std.proofs.Common.{◌≡◌, refl, sym, ap, ◌∙◌, subst, ℕ, ◌+◌, ◌<◌, ◌≤◌, ◌++◌, arith, length, List, [], ◌∷◌, take, get_or, Some, None}
use Rattle.std.{specs.Prelude.{map, slice_index_or}, proofs.lemmas.List.{get_or-map, length-map, map_more}}
use Rattle.key_lists.proofs.Parts.{every_at}
use Rattle.snapshot_store.specs.Lines.{count, limit, limit_in, node_in, published_table}
use Rattle.tick_laws.{specs.Reached.{IsReached, KeepsRules}, proofs.RunTicks.lawful_ticks}
use Rattle.tick_model.{specs.declared.feed.Run.Run, specs.declared.plan.Published.Published, specs.declared.table.PlainRow.PlainRow, specs.declared.table.PlainTable.PlainTable, specs.Evaluation.table_at, specs.LawfulRuns.IsLawfulRun, specs.Spoiled.{ByPublication, publication_fault}, specs.States.{state, tick}, specs.Tables.keys}
use Rattle.tick_table.{specs.Exact.ticking, specs.Ticking.Ticking}
use Rattle.replay.{specs.Outcomes.limit_at, specs.Standing.IsWithin, proofs.PastLimits.{fault_from, fault_here, fault_next, fault_none, limit_is, node_is}, proofs.PublishedTables.published_there}

-- a node's table at a step, from its tick
pub table_now : (run : Run) → IsLawfulRun run → (step : ℕ) → IsReached run step → (node : ℕ) → node < length run.plan.nodes → (table : Ticking) → table ≡ ticking (tick run step node) → table.new ≡ table_at (state run step) node
table_now run lawful step reached node less table is =
    ap (λ (t : Ticking). t.new) is ∙ (lawful_ticks run lawful step reached node less).new_is

pub rows_now : (run : Run) → IsLawfulRun run → (step : ℕ) → IsReached run step → (node : ℕ) → node < length run.plan.nodes → (table : Ticking) (held : List ℕ) (rows : ℕ) → table ≡ ticking (tick run step node) → held ≡ keys table.new.rows → rows ≡ length held → rows ≡ length (table_at (state run step) node).rows
rows_now run lawful step reached node less table held rows shown keeps counts =
    counts ∙ ap length keeps ∙ length-map table.new.rows (λ (row : PlainRow). row.key)
    ∙ ap (λ (of : PlainTable). length of.rows) (table_now run lawful step reached node less table shown)

pub none_left : (run : Run) (step i : ℕ) (tables : List Published) → tables ≡ run.plan.published → length tables ≤ i → fault_from (state run step) tables 0 ≡ fault_from (state run step) tables i → IsWithin run step
none_left run step i tables same past before =
    subst (λ (all : List Published). publication_fault 0 (state run step) all ≡ None) same (before ∙ fault_none (state run step) tables i past)

module _ (run : Run) (step i : ℕ) (tables : List Published) (t : Published) (same : tables ≡ run.plan.published) (less : i < length tables) (is : t ≡ get_or tables i t) where
  pub node_within : IsLawfulRun run → t.node < length run.plan.nodes
  node_within lawful =
      let there = every_at (λ (p : Published). p.node < length run.plan.nodes) run.plan.published i t (subst (λ (all : List Published). i < length all) same less) (published_there run.plan lawful.plan) in
      subst (λ (p : Published). p.node < length run.plan.nodes) (sym (is ∙ ap (λ (all : List Published). get_or all i t) same)) there

  pub number_within : i < count run
  number_within = subst (λ (all : List Published). i < length all) same less

  here : length (table_at (state run step) (get_or tables i t).node).rows ≡ length (table_at (state run step) t.node).rows
  here = ap (λ (p : Published). length (table_at (state run step) p.node).rows) (sym is)

  pub one_within : length (table_at (state run step) t.node).rows ≤ t.limit → fault_from (state run step) tables i ≡ fault_from (state run step) tables (i + 1)
  one_within few =
      fault_next (state run step) tables i t less
      (subst (λ (p : Published). length (table_at (state run step) p.node).rows ≤ p.limit) is few)

  pub limit_here : t.limit ≡ limit_at run i
  limit_here = ap (λ (p : Published). p.limit) is ∙ sym (limit_is (state run step) tables i t less) ∙ ap (λ (all : List Published). limit_in all i) same

  pub one_past : (rows : ℕ) → rows ≡ length (table_at (state run step) t.node).rows → t.limit < rows → fault_from (state run step) tables 0 ≡ fault_from (state run step) tables i → publication_fault 0 (state run step) run.plan.published ≡ Some (ByPublication i rows)
  one_past rows counted past before =
      subst (λ (all : List Published). publication_fault 0 (state run step) all ≡ Some (ByPublication i rows)) same
      (before
      ∙ fault_here (state run step) tables i t less (subst (λ (p : Published). p.limit < length (table_at (state run step) p.node).rows) is (subst (λ n. t.limit < n) counted past))
      ∙ ap (λ n. Some (ByPublication i n)) (here ∙ sym counted))

  pub table_put : IsLawfulRun run → IsReached run step → (other : Run) (before : ℕ) → other ≡ run → step ≡ before + 1 → (table : Ticking) → table ≡ ticking (tick run step t.node) → table.new ≡ published_table other (before + 1) i
  table_put lawful reached other before own next table shown =
      table_now run lawful step reached t.node (node_within lawful) table shown
      ∙ ap (table_at (state run step)) (ap (λ (p : Published). p.node) is ∙ sym (node_is (state run step) tables i t less) ∙ ap (λ (all : List Published). node_in all i) same)
      ∙ ap (λ s. published_table run s i) next
      ∙ ap (λ (of : Run). published_table of (before + 1) i) (sym own)

  pub limit_put : (other : Run) → other ≡ run → limit other i ≡ t.limit
  limit_put other own = ap (λ (of : Run). limit of i) own ∙ sym limit_here

pub rules_put : (run : Run) (step : ℕ) → IsReached run step → (other : Run) (before : ℕ) → other ≡ run → step ≡ before + 1 → KeepsRules other (before + 1)
rules_put run step reached other before own next =
    subst (λ (of : Run). KeepsRules of (before + 1)) (sym own) (subst (KeepsRules run) next reached.batches)

-- one table more
pub tables_more : (f : Published → PlainTable) (tables : List Published) (i : ℕ) (t : Published) → i < length tables → t ≡ get_or tables i t → (old new : List PlainTable) (one : PlainTable) → old ≡ map f (take i tables) → one ≡ f t → new ≡ old ++ one ∷ [] →
    new ≡ map f (take (i + 1) tables)
tables_more f tables i t less is old new one before here more =
    more ∙ ap (λ (all : List PlainTable). all ++ one ∷ []) before ∙ ap (λ (table : PlainTable). map f (take i tables) ++ table ∷ []) (here ∙ ap f is) ∙ sym (map_more f tables i t less)
