-- The first step of a lawful run: each node's change is a tick from an empty table, which keeps nothing.
use Rattle.std.proofs.Common.{◌≡◌, refl, ap, sym, ◌∙◌, subst, ℕ, zero, suc, ◌+◌, ◌<◌, inl, inr, arith, true, List, [], ◌∷◌, map, length, get_or}
use Rattle.std.{specs.Prelude.fold, specs.List.AllByRecursion}
use Rattle.tick_model.{specs.declared.feed.Run.Run, specs.declared.plan.Node.Node, specs.declared.plan.Op.Op, specs.declared.plan.Op.TheVariants.Merge, specs.declared.plan.Plan.Plan, specs.declared.table.PlainTable.PlainTable, specs.declared.update.KeyPair.KeyPair, specs.Tables.{IsTable, no_table}, specs.Updates.{IsTick, Tick}, specs.Merge.{merged_pairs, region}, specs.Evaluation.{table_at, table_of, is_source, source_number}, specs.Operators.{inputs_of, kept_by}, specs.LawfulRuns.IsLawfulRun, specs.Sources.{opened, no_tick, tick_at, source_ticks, sources}, specs.States.{empty_at, state, tick, tick_node}}
use Rattle.key_lists.proofs.Every.{every_weaker}
use Rattle.tick_laws.{specs.Reached.{IsReached, IsTickFrom}, proofs.EvalNodes.{outcome_is, source_outcome}, proofs.Grown.by_lesser, proofs.TickNodes.{kept_same, tick_cases, tick_from, tick_is}, proofs.LawfulPlans.columns_at-node, proofs.LawfulSources.{lawful_tables, source_fits}, proofs.Paired.no_node, proofs.ReachedTables.{lesser_inputs, bounded_at, reached_tables}, proofs.SourceTicks.{source_new, source_tick}}

-- the width of the empty table is the number of the node's columns
width_empty : (plan : Plan) (nodes : List Node) (n : ℕ) → n < length nodes → (empty_at (record plan { nodes = nodes }) n).width ≡ length (get_or nodes n no_node).columns
width_empty plan [] n h = absurd (omega (arith, h))
width_empty plan (node ∷ nodes) zero h = refl
width_empty plan (node ∷ nodes) (suc n) h = width_empty plan nodes n (omega (arith, h))

-- the same from no rows, of which none is kept
abbrev from_nothing : Tick → Tick
from_nothing tick = record { old = record { width = tick.old.width; rows = [] }; new = tick.new; kept = [] }

abbrev IsOpening : Tick → Type 0
IsOpening tick = tick ≡ from_nothing tick

-- nothing is kept of nothing
none_of_nothing : (op : Op) (tick : ℕ → Tick) (old new : PlainTable) → kept_by op (λ i. from_nothing (tick i)) old new ≡ []
none_of_nothing (Merge inputs) tick old new = none 0 0 inputs
  where
    none : (old new : ℕ) (inputs : List ℕ) → merged_pairs old new (map (λ i. from_nothing (tick i)) inputs) ≡ []
    none old new [] = refl
    none old new (i ∷ inputs) = none (old + region (from_nothing (tick i)).old) (new + region (tick i).new) inputs
none_of_nothing op tick old new = refl

none_kept : (op : Op) (tick : ℕ → Tick) (old new : PlainTable) → AllByRecursion (λ i. IsOpening (tick i)) (inputs_of op) → kept_by op tick old new ≡ []
none_kept op tick old new h = kept_same op tick (λ i. from_nothing (tick i)) old new h ∙ none_of_nothing op tick old new

-- the ticks of the sources
opened_opening : (opening : List PlainTable) (place : ℕ) → IsOpening (get_or (map opened opening) place no_tick)
opened_opening [] place = refl
opened_opening (table ∷ opening) zero = refl
opened_opening (table ∷ opening) (suc place) = opened_opening opening place

pub opened_width : (opening : List PlainTable) (place : ℕ) → (get_or (map opened opening) place no_tick).old.width ≡ (get_or (map opened opening) place no_tick).new.width
opened_width [] place = refl
opened_width (table ∷ opening) zero = refl
opened_width (table ∷ opening) (suc place) = opened_width opening place

-- a table without rows
pub empty_is : (table : PlainTable) (width : ℕ) → table.width ≡ width → table.rows ≡ [] → let empty : PlainTable = record { width = width; rows = [] } in table ≡ empty
empty_is table width w r =
    ap (λ w. let t : PlainTable = record { width = w; rows = table.rows } in t) w
    ∙ ap (λ rows. let t : PlainTable = record { width = width; rows = rows } in t) r

-- a tick that keeps nothing, from a table without rows
from_empty : (width : ℕ) (new : PlainTable) (kept : List KeyPair) → IsTable new → new.width ≡ width → kept ≡ [] → let empty : PlainTable = record { width = width; rows = [] } in IsTick (tick_from empty new kept)
from_empty width new kept t w k =
    let empty : PlainTable = record { width = width; rows = [] } in
    subst (λ kept. IsTick (tick_from empty new kept)) (sym k)
    (record { old_table = record { rows = tt; rising = tt }; new_table = t; one_width = w; of_old = tt; of_new = tt; rising_old = tt; rising_new = tt })

module _ (run : Run) (h : IsLawfulRun run) (r : IsReached run 0) where
  abbrev nodes : List Node
  nodes = run.plan.nodes

  abbrev own_ticks : List Tick
  own_ticks = source_ticks run 0

  abbrev old_table : ℕ → PlainTable
  old_table = empty_at run.plan

  abbrev new_at : ℕ → PlainTable
  new_at = table_at (state run 0)

  abbrev T : List Tick
  T = fold (tick_node nodes own_ticks old_table new_at) [] nodes

  lesser : (n : ℕ) → n < length nodes → AllByRecursion (λ input. input < n) (inputs_of (get_or nodes n no_node).op)
  lesser n = lesser_inputs run.plan h.plan n no_node

  record IsOpened (n : ℕ) (tick : Tick) : Type 0 where
    from : IsTickFrom (old_table n) (new_at n) tick
    opening : IsOpening tick

  source_opened : (n : ℕ) → n < length nodes → is_source (get_or nodes n no_node) ≡ true → IsOpened n (tick_at own_ticks (source_number nodes n))
  source_opened n less is =
      let place = source_number nodes n in
      let own = tick_at own_ticks place in
      let fits = source_fits run h 0 r.batches n less is in
      let opening = opened_opening run.opening place in
      let width : own.old.width ≡ (old_table n).width =
      opened_width run.opening place ∙ ap (λ (table : PlainTable). table.width) (source_new own_ticks place) ∙ fits.bounded.width_is ∙ sym (width_empty run.plan nodes n less)
      in
      record {
        from = record {
          is_tick = source_tick run (lawful_tables run h) 0 r.batches place;
          old_is = empty_is own.old (old_table n).width width (ap (λ (tick : Tick). tick.old.rows) opening);
          new_is = source_new own_ticks place ∙ ap table_of (sym (outcome_is nodes no_node (sources run 0) lesser n less ∙ source_outcome (get_or nodes n no_node).op (get_or (sources run 0) place no_table) (state run 0) is));
        };
        opening = opening;
      }

  operator_opened : (n : ℕ) → n < length nodes → ((k : ℕ) → k < n → IsOpened k (get_or T k no_tick)) → IsOpened n (tick_from (old_table n) (new_at n) (kept_by (get_or nodes n no_node).op (tick_at T) (old_table n) (new_at n)))
  operator_opened n less before =
      let op = (get_or nodes n no_node).op in
      let tables = reached_tables run h 0 r in
      let none = none_kept op (tick_at T) (old_table n) (new_at n)
      (every_weaker (λ i. i < n) (λ i. IsOpening (tick_at T i)) (inputs_of op) (λ i below. (before i below).opening) (lesser n less))
      in
      let width : (new_at n).width ≡ (old_table n).width =
      (bounded_at run h 0 r.batches n less (tables.each n less)).width_is ∙ ap length (columns_at-node nodes no_node n less) ∙ sym (width_empty run.plan nodes n less)
      in
      record {
        from = record { is_tick = from_empty (old_table n).width (new_at n) (kept_by op (tick_at T) (old_table n) (new_at n)) (tables.tables n) width none; old_is = refl; new_is = refl };
        opening = ap (tick_from (old_table n) (new_at n)) none;
      }

  pub opening_ticks : (n : ℕ) → n < length nodes → IsTickFrom (old_table n) (new_at n) (tick run 0 n)
  opening_ticks n less = (by_lesser (λ n. n < length nodes → IsOpened n (get_or T n no_tick)) (λ n before within.
      subst (IsOpened n) (sym (tick_is nodes no_node own_ticks old_table new_at n within (lesser n within)))
      (elim (tick_cases (get_or nodes n no_node).op (tick_at own_ticks (source_number nodes n)) T (old_table n) (new_at n)) [
        | inl own ↦ subst (IsOpened n) (sym own.1) (source_opened n within own.0)
        | inr made ↦ subst (IsOpened n) (sym made.1) (operator_opened n within (λ k below. before k below (omega (arith, below, within))))
      ])) n less).from
