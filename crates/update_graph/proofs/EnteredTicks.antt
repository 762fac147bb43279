-- At a step that a run enters, the change of each node that has a table is a tick from its table before the step to its table after it.
use Rattle.std.proofs.Common.{◌≡◌, refl, ap, sym, ◌∙◌, subst, add-one, ℕ, zero, suc, ◌+◌, ◌<◌, inl, inr, arith, Bool, true, false, List, [], ◌∷◌, map, length, get_or, None}
use Rattle.std.{specs.List.AllByRecursion, proofs.lemmas.Bool.cases_lt}
use Rattle.tick_model.{specs.declared.feed.Run.Run, specs.declared.plan.Node.Node, specs.declared.plan.Op.Op, specs.declared.table.PlainTable.PlainTable, specs.Evaluation.{applied, has_table, is_source, outcome_at, outcome_of, source_number, table_at, table_of}, specs.Operators.{fault_of, inputs_of, result, kept_by, is_source_op}, specs.Tables.{no_table, IsTable}, specs.LawfulRuns.IsLawfulRun, specs.Sources.{no_tick, opened, source_ticks, sources, tick_at}, specs.States.{empty_at, state, tick, tick_of, ticks}, specs.Updates.{IsTick, Tick}}
use Rattle.key_lists.proofs.Every.{every_weaker}
use Rattle.tick_laws.{specs.Operated.operated, specs.Reached.{IsReached, IsTickFrom, table_before}, proofs.EvalNodes.{applied_has, operator_outcome, outcome_is, result_same, source_outcome}, proofs.LawfulSources.{lawful_tables, source_fits}, proofs.OperatorTicks.operator_keeps, proofs.ReachedTables.{bounded_at, lesser_inputs, reached_tables}, proofs.RunTicks.tick_of_inputs, proofs.SourceTicks.{source_new, source_old, source_tick}, proofs.TickNodes.{tick_cases, tick_from}, proofs.OpeningTicks.{opened_width, empty_is}}
use Rattle.update_graph.{specs.Entered.IsEntered, specs.Stands.is_defined, specs.Tags.{no_node, node_at, op_at}, proofs.OperatorLaws.begin_result}

-- the step before one that a run enters is reached
pub reached_one : (run : Run) (step : ℕ) → IsEntered run (suc step) → IsReached run step
reached_one run step e = record {
  batches = λ s below. e.batches s (omega (arith, below));
  nodes = λ s below. e.nodes s (omega (arith, below));
}

pub lesser : (run : Run) → IsLawfulRun run → (n : ℕ) → n < length run.plan.nodes → AllByRecursion (λ input. input < n) (inputs_of (op_at run n))
lesser run h n within = lesser_inputs run.plan h.plan n no_node within

-- the outcome of a node with an operator is that of the operator over all outcomes
pub operator_outcome_at : (run : Run) → IsLawfulRun run → (step n : ℕ) → n < length run.plan.nodes → is_source (node_at run n) ≡ false → outcome_at (state run step) n ≡ applied (op_at run n) (state run step)
operator_outcome_at run h step n within is =
    outcome_is run.plan.nodes no_node (sources run step) (λ n. lesser run h n) n within
    ∙ operator_outcome (op_at run n) (get_or (sources run step) (source_number run.plan.nodes n) no_table) (state run step) is

-- what a node with an operator and a table is made of
pub record IsMade (run : Run) (step n : ℕ) : Type 0 where
  pub inputs : AllByRecursion (λ input. is_defined run step input ≡ true) (inputs_of (op_at run n))
  pub fault : fault_of (op_at run n) (table_at (state run step)) ≡ None
  pub table : result (op_at run n) (table_at (state run step)) ≡ table_at (state run step) n

pub made : (run : Run) → IsLawfulRun run → (step n : ℕ) → n < length run.plan.nodes → is_source (node_at run n) ≡ false → is_defined run step n ≡ true → IsMade run step n
made run h step n within is has =
    let e = operator_outcome_at run h step n within is in
    let a = applied_has (op_at run n) (state run step) (ap has_table (sym e) ∙ has) in
    record { inputs = a.inputs; fault = a.fault; table = sym (ap table_of e ∙ a.table) }

-- the tables before a step
pub table_before_fine : (run : Run) (step : ℕ) → IsEntered run step → (n : ℕ) → IsTable (table_before run step n)
table_before_fine run zero e n = record { rows = tt; rising = tt }
table_before_fine run (suc step) e n = (reached_tables run e.lawful step (reached_one run step e)).tables n

pub result_before : (run : Run) (step : ℕ) → IsEntered run step → (n : ℕ) → n < length run.plan.nodes → is_source (node_at run n) ≡ false → result (op_at run n) (table_before run step) ≡ table_before run step n
result_before run zero e n within is = begin_result run e.lawful n within is
result_before run (suc step) e n within is =
    (made run e.lawful step n within is ((reached_tables run e.lawful step (reached_one run step e)).each n within)).table

-- the tables after it
pub table_after_fine : (run : Run) (step : ℕ) → IsEntered run step → (n : ℕ) → n < length run.plan.nodes → is_defined run step n ≡ true → IsTable (table_at (state run step) n)
table_after_fine run step e n within has = (bounded_at run e.lawful step e.batches n within has).is_table

opened_rows : (opening : List PlainTable) (place : ℕ) → (get_or (map opened opening) place no_tick).old.rows ≡ []
opened_rows [] place = refl
opened_rows (table ∷ opening) zero = refl
opened_rows (table ∷ opening) (suc place) = opened_rows opening place

width_empty : (run : Run) (nodes : List Node) (n : ℕ) → n < length nodes → (empty_at (record run.plan { nodes = nodes }) n).width ≡ length (get_or nodes n no_node).columns
width_empty run [] n h = absurd (omega (arith, h))
width_empty run (node ∷ nodes) zero h = refl
width_empty run (node ∷ nodes) (suc n) h = width_empty run nodes n (omega (arith, h))

-- the outcome of a source is its table
pub source_outcome_at : (run : Run) → IsLawfulRun run → (step n : ℕ) → n < length run.plan.nodes → is_source (node_at run n) ≡ true
    → outcome_at (state run step) n ≡ outcome_of (op_at run n) (get_or (sources run step) (source_number run.plan.nodes n) no_table) (state run step)
source_outcome_at run h step n within is = outcome_is run.plan.nodes no_node (sources run step) (λ n. lesser run h n) n within

pub source_table_at : (run : Run) → IsLawfulRun run → (step n : ℕ) → n < length run.plan.nodes → is_source (node_at run n) ≡ true
    → (is_defined run step n ≡ true) × (table_at (state run step) n ≡ (tick_at (source_ticks run step) (source_number run.plan.nodes n)).new)
source_table_at run h step n within is =
    let own = get_or (sources run step) (source_number run.plan.nodes n) no_table in
    let e = source_outcome_at run h step n within is ∙ source_outcome (op_at run n) own (state run step) is in
    (ap has_table e, ap table_of e ∙ sym (source_new (source_ticks run step) (source_number run.plan.nodes n)))

-- the source's own tick begins with its table before the step
source_before : (run : Run) (step : ℕ) → IsEntered run step → (n : ℕ) → n < length run.plan.nodes → is_source (node_at run n) ≡ true → (tick_at (source_ticks run step) (source_number run.plan.nodes n)).old ≡ table_before run step n
source_before run zero e n within is =
    let place = source_number run.plan.nodes n in
    empty_is (tick_at (source_ticks run 0) place).old (empty_at run.plan n).width
    (opened_width run.opening place ∙ ap (λ (table : PlainTable). table.width) (source_new (source_ticks run 0) place) ∙ (source_fits run e.lawful 0 e.batches n within is).bounded.width_is ∙ sym (width_empty run run.plan.nodes n within))
    (opened_rows run.opening place)
source_before run (suc step) e n within is =
    source_old run step (source_number run.plan.nodes n)
    ∙ sym (source_new (source_ticks run step) (source_number run.plan.nodes n))
    ∙ sym (source_table_at run e.lawful step n within is).1

-- the tick of a source is its own
pub tick_of_source : (run : Run) → IsLawfulRun run → (step n : ℕ) → n < length run.plan.nodes → is_source (node_at run n) ≡ true → tick run step n ≡ tick_at (source_ticks run step) (source_number run.plan.nodes n)
tick_of_source run h step n within is =
    let own = tick_at (source_ticks run step) (source_number run.plan.nodes n) in
    tick_of_inputs run step (λ n d. lesser_inputs run.plan h.plan n d) n no_node within
    ∙ go (op_at run n) is own (ticks run step) (table_before run step n) (table_at (state run step) n)
  where
    go : (op : Op) → is_source_op op ≡ true → (own : Tick) (done : List Tick) (old new : PlainTable) → tick_of op own done old new ≡ own
    go op is own done old new =
        elim (tick_cases op own done old new) [
          | inl source ↦ source.1
          | inr other ↦ absurd (cc)
        ]

pub tick_of_operator : (run : Run) → IsLawfulRun run → (step n : ℕ) → n < length run.plan.nodes → is_source (node_at run n) ≡ false
    → tick run step n ≡ tick_from (table_before run step n) (table_at (state run step) n) (kept_by (op_at run n) (tick_at (ticks run step)) (table_before run step n) (table_at (state run step) n))
tick_of_operator run h step n within is =
    let own = tick_at (source_ticks run step) (source_number run.plan.nodes n) in
    tick_of_inputs run step (λ n d. lesser_inputs run.plan h.plan n d) n no_node within
    ∙ elim (tick_cases (op_at run n) own (ticks run step) (table_before run step n) (table_at (state run step) n)) [
      | inl source ↦ absurd (cc)
      | inr other ↦ other.1
    ]

module _ (run : Run) (step : ℕ) (e : IsEntered run step) where
  abbrev IsNodeTick : ℕ → Type 0
  IsNodeTick n = IsTickFrom (table_before run step n) (table_at (state run step) n) (tick run step n)

  -- what the operator makes of the tables of before is the node's table before
  pub operated_before : (n : ℕ) → n < length run.plan.nodes → is_source (node_at run n) ≡ false → AllByRecursion IsNodeTick (inputs_of (op_at run n)) → result (op_at run n) (λ k. (tick run step k).old) ≡ table_before run step n
  operated_before n within is inputs =
      result_same (op_at run n) (λ k. (tick run step k).old) (table_before run step) (every_weaker IsNodeTick (λ k. (tick run step k).old ≡ table_before run step k) (inputs_of (op_at run n)) (λ k t. t.old_is) inputs)
      ∙ result_before run step e n within is

  -- the operator's tick over those of its inputs is the node's
  pub operated_is : (n : ℕ) → n < length run.plan.nodes → is_source (node_at run n) ≡ false → is_defined run step n ≡ true → AllByRecursion IsNodeTick (inputs_of (op_at run n)) → operated (op_at run n) (tick run step) ≡ tick run step n
  operated_is n within is has inputs =
      let op = op_at run n in
      let new : result op (λ k. (tick run step k).new) ≡ table_at (state run step) n =
      result_same op (λ k. (tick run step k).new) (table_at (state run step)) (every_weaker IsNodeTick (λ k. (tick run step k).new ≡ table_at (state run step) k) (inputs_of op) (λ k t. t.new_is) inputs) ∙ (made run e.lawful step n within is has).table in
      ap (λ o. tick_from o (result op (λ k. (tick run step k).new)) (kept_by op (tick run step) o (result op (λ k. (tick run step k).new)))) (operated_before n within is inputs)
      ∙ ap (λ m. tick_from (table_before run step n) m (kept_by op (tick run step) (table_before run step n) m)) new
      ∙ sym (tick_of_operator run e.lawful step n within is)

  operator_tick : (n : ℕ) → n < length run.plan.nodes → is_source (node_at run n) ≡ false → is_defined run step n ≡ true → AllByRecursion IsNodeTick (inputs_of (op_at run n)) → IsNodeTick n
  operator_tick n within is has inputs =
      let op = op_at run n in
      let same = operated_is n within is has inputs in
      let old : result op (λ k. (tick run step k).old) ≡ table_before run step n = ap (λ (t : Tick). t.old) (same ∙ tick_of_operator run e.lawful step n within is) in
      let new : result op (λ k. (tick run step k).new) ≡ table_at (state run step) n = ap (λ (t : Tick). t.new) (same ∙ tick_of_operator run e.lawful step n within is) in
      record {
        is_tick = subst IsTick same (operator_keeps op (tick run step) (every_weaker IsNodeTick (λ k. IsTick (tick run step k)) (inputs_of op) (λ k t. t.is_tick) inputs)
            (subst IsTable (sym old) (table_before_fine run step e n)) (subst IsTable (sym new) (table_after_fine run step e n within has)));
        old_is = ap (λ (t : Tick). t.old) (tick_of_operator run e.lawful step n within is);
        new_is = ap (λ (t : Tick). t.new) (tick_of_operator run e.lawful step n within is);
      }

  source_node_tick : (n : ℕ) → n < length run.plan.nodes → is_source (node_at run n) ≡ true → IsNodeTick n
  source_node_tick n within is =
      let own = tick_of_source run e.lawful step n within is in
      record {
        is_tick = subst IsTick (sym own) (source_tick run (lawful_tables run e.lawful) step e.batches (source_number run.plan.nodes n));
        old_is = ap (λ (t : Tick). t.old) own ∙ source_before run step e n within is;
        new_is = ap (λ (t : Tick). t.new) own ∙ sym (source_table_at run e.lawful step n within is).1;
      }

  -- inputs that have tables have ticks
  each_input : (n : ℕ) → ((k : ℕ) → k < n → is_defined run step k ≡ true → IsNodeTick k) → (inputs : List ℕ) → AllByRecursion (λ input. input < n) inputs → AllByRecursion (λ input. is_defined run step input ≡ true) inputs → AllByRecursion IsNodeTick inputs
  each_input n before [] l h = tt
  each_input n before (input ∷ inputs) l h = (before input l.0 h.0, each_input n before inputs l.1 h.1)

  -- a node, where those below it are known
  own_tick : (n : ℕ) → n < length run.plan.nodes → is_defined run step n ≡ true → ((k : ℕ) → k < n → is_defined run step k ≡ true → IsNodeTick k) → (b : Bool) → is_source (node_at run n) ≡ b → IsNodeTick n
  own_tick n within has before true is = source_node_tick n within is
  own_tick n within has before false is = operator_tick n within is has (each_input n before (inputs_of (op_at run n)) (lesser run e.lawful n within) (made run e.lawful step n within is has).inputs)

  ticks_below : (m n : ℕ) → n < m → n < length run.plan.nodes → is_defined run step n ≡ true → IsNodeTick n
  ticks_below zero n less within has = absurd (omega (arith, less))
  ticks_below (suc m) n less within has =
      elim (cases_lt n m) [
        | inl before ↦ ticks_below m n before within has
        | inr last ↦ own_tick n within has (λ k below. ticks_below m k (omega (arith, below, less)) (omega (arith, below, within))) (is_source (node_at run n)) refl
      ]

  pub entered_tick : (n : ℕ) → n < length run.plan.nodes → is_defined run step n ≡ true → IsNodeTick n
  entered_tick n = ticks_below (suc n) n (omega arith)

  -- the inputs of a node, where all of them have tables
  pub entered_inputs : (n : ℕ) → n < length run.plan.nodes → AllByRecursion (λ input. is_defined run step input ≡ true) (inputs_of (op_at run n)) → AllByRecursion IsNodeTick (inputs_of (op_at run n))
  entered_inputs n within = each_input n (λ k below. entered_tick k (omega (arith, below, within))) (inputs_of (op_at run n)) (lesser run e.lawful n within)

-- at a step before one that a run enters all nodes have tables
pub all_before : (run : Run) (step : ℕ) → IsEntered run (step + 1) → (n : ℕ) → n < length run.plan.nodes → is_defined run step n ≡ true
all_before run step e n within = (reached_tables run e.lawful step (reached_one run step (subst (IsEntered run) (add-one step) e))).each n within

-- the step before one that a run enters is entered
pub before_entered : (run : Run) (step : ℕ) → IsEntered run (step + 1) → IsEntered run step
before_entered run step e = record {
  lawful = e.lawful;
  within = omega (arith, e.within);
  batches = λ s below. e.batches s (omega (arith, below));
  nodes = λ s below. e.nodes s (omega (arith, below));
}
