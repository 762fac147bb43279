-- A node none of whose inputs changes in a step.
use Rattle.std.proofs.Common.{◌≡◌, ap, sym, ◌∙◌, ℕ, ◌<◌, true, false, List, [], map, length, None}
use Rattle.std.{specs.Prelude.flat_map, specs.List.AllByRecursion}
use Rattle.key_lists.proofs.Every.{every_both, every_weaker, map_same}
use Rattle.tick_model.{specs.declared.feed.Run.Run, specs.declared.plan.Op.Op, specs.declared.table.PlainTable.PlainTable, specs.Changes.{Change, change_of, is_empty, told_keys}, specs.Evaluation.{is_source, table_at}, specs.Operators.{fault_of, inputs_of}, specs.Sources.unchanged, specs.States.{state, tick}, specs.Tables.{IsTable, cells_at}, specs.Updates.{Tick, Update}}
use Rattle.tick_laws.{specs.Operated.operated, specs.Reached.{IsTickFrom, table_before}, specs.Replaced.no_update, proofs.WholeUpdates.between-unchanged, proofs.EvalNodes.fault_same, proofs.StillTicks.{IsStill, operator_stays, still_by_empty}}
use Rattle.tick_table.{specs.Exact.{IsExact, tick_of, ticking}, specs.Ticking.Ticking}
use Rattle.update_graph.{specs.Entered.IsEntered, specs.Stands.{Stays, is_defined}, specs.Tags.{node_at, op_at}, proofs.EnteredTicks.entered_inputs, proofs.StepInputs.{has, operated_own, own_tick}}

pub no_change : (table : PlainTable) → let none : Change = record { update = no_update; cells = [] } in none ≡ change_of (unchanged table)
no_change table = sym (ap (λ (update : Update). let change : Change = record { update = update; cells = flat_map (λ key. cells_at key table.rows) (told_keys update) } in change) (between-unchanged table))

-- an exact table whose update is empty is as it was
pub still_table : (table : Ticking) → IsExact table → is_empty table.update ≡ true → table ≡ ticking (unchanged table.new)
still_table table e empty =
    let still : tick_of table ≡ unchanged table.old = still_by_empty (tick_of table) e.tick (ap is_empty (sym e.update) ∙ empty) in
    ap (λ (update : Update). let same : Ticking = record { old = table.old; new = table.new; update = update } in same) e.update
    ∙ ap ticking still
    ∙ ap (λ (old : PlainTable). ticking (unchanged old)) (sym (ap (λ (t : Tick). t.new) still))

module _ (run : Run) (step : ℕ) (e : IsEntered run step) (n : ℕ) (within : n < length run.plan.nodes) (is : is_source (node_at run n) ≡ false) where
  abbrev op : Op
  op = op_at run n

  abbrev inputs : List ℕ
  inputs = inputs_of op

  abbrev IsNodeTick : ℕ → Type 0
  IsNodeTick input = IsTickFrom (table_before run step input) (table_at (state run step) input) (tick run step input)

  module _ (h : AllByRecursion (Stays run step) inputs) (clear : fault_of op (table_before run step) ≡ None) where
    defined : AllByRecursion (λ input. is_defined run step input ≡ true) inputs
    defined = every_weaker (Stays run step) (λ input. is_defined run step input ≡ true) inputs (λ input s. s.0) h

    ticks : AllByRecursion IsNodeTick inputs
    ticks = entered_inputs run step e n within defined

    stills : AllByRecursion (λ input. IsStill (tick run step input)) inputs
    stills = every_both IsNodeTick (Stays run step) (λ input. IsStill (tick run step input)) inputs (λ input t s. still_by_empty (tick run step input) t.is_tick s.1) ticks h

    tables : AllByRecursion (λ input. table_at (state run step) input ≡ table_before run step input) inputs
    tables = every_both IsNodeTick (λ input. IsStill (tick run step input)) (λ input. table_at (state run step) input ≡ table_before run step input) inputs (λ input t s. sym t.new_is ∙ ap (λ (t : Tick). t.new) s ∙ t.old_is) ticks stills

    no_fault : fault_of op (table_at (state run step)) ≡ None
    no_fault = fault_same op (table_at (state run step)) (table_before run step) tables ∙ clear

    pub has_table : is_defined run step n ≡ true
    has_table = has run step e n within is defined no_fault

    pub same_inputs : map (table_before run step) inputs ≡ map (table_at (state run step)) inputs
    same_inputs = sym (map_same (table_at (state run step)) (table_before run step) inputs tables)

    own : IsNodeTick n
    own = own_tick run step e n within is defined no_fault

    still : IsStill (tick run step n)
    still =
        let same : operated op (tick run step) ≡ tick run step n = operated_own run step e n within is defined no_fault in
        sym same
        ∙ operator_stays op (tick run step) stills (every_weaker IsNodeTick (λ input. IsTable (tick run step input).old) inputs (λ input t. t.is_tick.old_table) ticks)
        ∙ ap (λ (t : Tick). unchanged t.old) same

    -- its table after the step
    pub rested_is : (table : PlainTable) → table ≡ table_before run step n → ticking (unchanged table) ≡ ticking (tick run step n)
    rested_is table same = ap (λ (t : PlainTable). ticking (unchanged t)) (same ∙ sym own.old_is) ∙ ap ticking (sym still)

    pub own_after : (table : PlainTable) → table ≡ table_before run step n → table ≡ table_at (state run step) n
    own_after table same = same ∙ sym own.old_is ∙ sym (ap (λ (t : Tick). t.new) still) ∙ own.new_is
