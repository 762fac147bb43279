-- What the inputs of a node hand to it at a step that a run enters, and what its operator makes of them.
use Rattle.std.proofs.Common.{◌≡◌, refl, ap, ap₂, sym, ◌∙◌, subst, ℕ, ◌+◌, ◌*◌, ◌<◌, ◌≤◌, arith, Bool, true, false, List, [], ◌∷◌, map, length, Option, Some, None, Vec, Global}
use Rattle.std.{specs.Prelude.{slice_index, sum, IfOk, Ok, Result, option_map}, specs.List.{AllByRecursion, list_all}, specs.declared.sync.Arc.Arc, proofs.lemmas.Bool.not-true, proofs.lemmas.List.Folds.list_all-map}
use Rattle.key_lists.proofs.Every.{every-map, every_unmapped, every_weaker, map_map, map_same, pass_all}
use Rattle.table_operator.{specs.Inputs.{counted_in, news, olds, tables}, specs.Made.HasKeys}
use Rattle.operators.{specs.Inputs.{AreTables, AreTicks, IsShown}, specs.Planned.input_widths}
use Rattle.tick_model.{specs.declared.feed.Run.Run, specs.declared.plan.Op.Op, specs.declared.table.NodeFault.NodeFault, specs.declared.table.PlainTable.PlainTable, specs.Changes.{Change, change_of}, specs.Evaluation.{Outcome, Fault, NoInput, applied, has_table, is_source, or_fault, outcome_at, table_at}, specs.Operators.{fault_of, inputs_of, result, result_width}, specs.Plans.{columns_at, key_bounds}, specs.States.{state, tick}, specs.Updates.Tick}
use Rattle.tick_laws.{specs.Bounded.IsNodeTable, specs.Operated.operated, specs.Reached.{IsTickFrom, table_before}, proofs.ReachedTables.bounded_at}
use Rattle.tick_table.{specs.Exact.{IsExact, counted, tick_of}, specs.Ticking.Ticking, proofs.ExactAgain.{exact_again, tick_again}}
use Rattle.update_graph.{specs.Entered.IsEntered, specs.Stands.{AreHanded, is_defined, most_reads, most_tried, room_for, shown}, specs.Tags.{Tag, is_operator, node_at, op_at, tag}, proofs.EnteredTicks.{entered_inputs, entered_tick, lesser, made, operated_before, operated_is, operator_outcome_at}, proofs.OperatorLaws.have_keys}

-- what an operator makes, by cases
abbrev made_of : Bool → Option NodeFault → PlainTable → Outcome
made_of b fault table = elim b [ true ↦ or_fault fault table | false ↦ NoInput ]

applied_is : (op : Op) (done : List Outcome) (b : Bool) (fault : Option NodeFault) → list_all (λ input. has_table (outcome_at done input)) (inputs_of op) ≡ b → fault_of op (table_at done) ≡ fault → applied op done ≡ made_of b fault (result op (table_at done))
applied_is op done b fault e f = ap₂ (λ b fault. made_of b fault (result op (table_at done))) e f

-- what a node's operator is given at a step: the tables of its inputs
pub record IsGiven (run : Run) (step n : ℕ) (all : List Ticking) (own : Op) : Type 0 where
  pub entered : IsEntered run step
  pub within : n < length run.plan.nodes
  pub operator : is_source (node_at run n) ≡ false
  pub defined : AllByRecursion (λ input. is_defined run step input ≡ true) (inputs_of (op_at run n))
  pub same : all ≡ map (shown run step) (inputs_of (op_at run n))
  pub op_is : own ≡ op_at run n

-- a change that is a node's at a step
pub record IsOwnChange (run : Run) (step n : ℕ) (change : Change) : Type 0 where
  pub defined : is_defined run step n ≡ true
  pub from : IsTickFrom (table_before run step n) (table_at (state run step) n) (tick run step n)
  pub same : change ≡ change_of (tick run step n)

-- an input of a node
pub record IsInput (run : Run) (step input : ℕ) : Type 0 where
  pub from : IsTickFrom (table_before run step input) (table_at (state run step) input) (tick run step input)
  pub bounded : IsNodeTable (length (columns_at run.plan.nodes input)) (slice_index (key_bounds run.plan.nodes) input) (table_at (state run step) input)

module _ (run : Run) (step : ℕ) (e : IsEntered run step) (n : ℕ) (within : n < length run.plan.nodes) where
  abbrev op : Op
  op = op_at run n

  abbrev inputs : List ℕ
  inputs = inputs_of op

  module _ (is : is_source (node_at run n) ≡ false) where
    -- where an input has no table, the node has none
    pub no_input : (shares : List Tag) → shares ≡ map (tag run step) inputs → list_all (λ (share : Tag). is_defined share.run share.step share.node) shares ≡ false → outcome_at (state run step) n ≡ NoInput
    no_input shares same h =
        operator_outcome_at run e.lawful step n within is
        ∙ applied_is op (state run step) false (fault_of op (table_at (state run step)))
        (sym (list_all-map (λ (share : Tag). is_defined share.run share.step share.node) (tag run step) inputs) ∙ ap (list_all (λ (share : Tag). is_defined share.run share.step share.node)) (sym same) ∙ h) refl

    -- where the node has a table, its operator makes the update of it
    pub tried_is : is_defined run step n ≡ true → most_tried run step n ≡ most_reads run step n
    tried_is has = ap (λ (t : Tick). room_for run step n (change_of t).update) (operated_is run step e n within is has (entered_inputs run step e n within (made run e.lawful step n within is has).inputs))

    module _ (defined : AllByRecursion (λ input. is_defined run step input ≡ true) inputs) where
      each : (all : List ℕ) → AllByRecursion (λ input. input < n) all → AllByRecursion (λ input. is_defined run step input ≡ true) all → AllByRecursion (IsInput run step) all
      each [] l h = tt
      each (input ∷ all) l h =
          let below : input < length run.plan.nodes = let less = l.0 in omega (arith, less, within) in
          (record { from = entered_tick run step e input below h.0; bounded = bounded_at run e.lawful step e.batches input below h.0 }, each all l.1 h.1)

      are : AllByRecursion (IsInput run step) inputs
      are = each inputs (lesser run e.lawful n within) defined

      pub ticks_are : AllByRecursion (λ input. IsTickFrom (table_before run step input) (table_at (state run step) input) (tick run step input)) inputs
      ticks_are = every_weaker (IsInput run step) (λ input. IsTickFrom (table_before run step input) (table_at (state run step) input) (tick run step input)) inputs (λ input i. i.from) are

      -- a node that fails
      failed : (fault : NodeFault) → fault_of op (table_at (state run step)) ≡ Some fault → outcome_at (state run step) n ≡ Fault fault
      failed fault f =
          operator_outcome_at run e.lawful step n within is
          ∙ applied_is op (state run step) true (Some fault) (pass_all (λ input. has_table (outcome_at (state run step) input)) inputs defined) f

      -- a node that has a table
      pub has : fault_of op (table_at (state run step)) ≡ None → is_defined run step n ≡ true
      has f =
          ap has_table (operator_outcome_at run e.lawful step n within is
          ∙ applied_is op (state run step) true None (pass_all (λ input. has_table (outcome_at (state run step) input)) inputs defined) f)

      pub own_tick : fault_of op (table_at (state run step)) ≡ None → IsTickFrom (table_before run step n) (table_at (state run step) n) (tick run step n)
      own_tick f = entered_tick run step e n within (has f)

      pub operated_own : fault_of op (table_at (state run step)) ≡ None → operated op (tick run step) ≡ tick run step n
      operated_own f = operated_is run step e n within is (has f) ticks_are

-- what the shares of a node's inputs hand to its operator
pub handed : {run : Run} {step n : ℕ} {own : Op} {shares : List Tag} {found : Option (Vec (Arc Ticking Global) Global)} {all : Vec (Arc Ticking Global) Global} {inputs : List (Arc Ticking Global)}
    → IsEntered run step → n < length run.plan.nodes → is_operator run n ≡ true → own ≡ op_at run n → shares ≡ map (tag run step) (inputs_of (op_at run n)) → found ≡ Some all → inputs ≡ all.items
    → AreHanded shares (option_map (λ (all : Vec (Arc Ticking Global) Global). all.items) found) → IsGiven run step n (tables inputs) own
handed {run} {step} {n} {own} {shares} {found} {all} {inputs} e within is op_is same some items h =
    let here : AreHanded shares (Some all.items) = subst (λ found. AreHanded shares (option_map (λ (all : Vec (Arc Ticking Global) Global). all.items) found)) some h in
    let defined : Tag → Type 0 = λ share. is_defined share.run share.step share.node ≡ true in
    let its : Tag → Ticking = λ share. shown share.run share.step share.node in
    record {
      entered = e;
      within = within;
      operator = not-true (is_source (node_at run n)) is;
      defined = every_unmapped defined (tag run step) (inputs_of (op_at run n)) (subst (AllByRecursion defined) same here.0);
      same = ap tables items ∙ here.1 ∙ ap (map its) same ∙ map_map its (tag run step) (inputs_of (op_at run n));
      op_is = op_is;
    }

module _ {run : Run} {step n : ℕ} {all : List Ticking} {own : Op} (g : IsGiven run step n all own) where
  abbrev own_inputs : List ℕ
  own_inputs = inputs_of (op_at run n)

  given : AllByRecursion (IsInput run step) own_inputs
  given = are run step g.entered n g.within g.operator g.defined

  on_inputs : {X : Type 0} (f : Ticking → X) (h : ℕ → X) → ((input : ℕ) → IsInput run step input → f (shown run step input) ≡ h input) → map f all ≡ map h own_inputs
  on_inputs f h same = ap (map f) g.same ∙ map_map f (shown run step) own_inputs ∙ map_same (λ input. f (shown run step input)) h own_inputs (every_weaker (IsInput run step) (λ input. f (shown run step input) ≡ h input) own_inputs same given)

  of_inputs : (P : Ticking → Type 0) → ((input : ℕ) → IsInput run step input → P (shown run step input)) → AllByRecursion P all
  of_inputs P h = subst (AllByRecursion P) (sym g.same) (every-map P (shown run step) own_inputs (every_weaker (IsInput run step) (λ input. P (shown run step input)) own_inputs h given))

  pub widths_are : map (λ (t : Ticking). t.new.width) all ≡ input_widths run.plan (op_at run n)
  widths_are = on_inputs (λ t. t.new.width) (λ input. length (columns_at run.plan.nodes input)) (λ input i. ap (λ (t : PlainTable). t.width) i.from.new_is ∙ i.bounded.width_is)

  pub exact_are : AllByRecursion IsExact all
  exact_are = of_inputs IsExact (λ input i. exact_again (tick run step input) i.from.is_tick)

  pub rows_are : AllByRecursion (λ (t : Ticking). length t.new.rows ≤ 4194304) all
  rows_are = of_inputs (λ t. length t.new.rows ≤ 4194304) (λ input i. subst (λ (t : PlainTable). length t.rows ≤ 4194304) (sym i.from.new_is) i.bounded.count)

  pub olds_are : olds all ≡ map (table_before run step) own_inputs
  olds_are = on_inputs (λ t. t.old) (table_before run step) (λ input i. i.from.old_is)

  pub news_are : news all ≡ map (table_at (state run step)) own_inputs
  news_are = on_inputs (λ t. t.new) (table_at (state run step)) (λ input i. i.from.new_is)

  pub keys_are : HasKeys own (news all)
  keys_are =
      subst (λ o. HasKeys o (news all)) (sym g.op_is) (subst (HasKeys (op_at run n)) (sym news_are)
      (have_keys run g.entered.lawful n g.within (table_at (state run step)) (every_weaker (IsInput run step) (λ input. IsNodeTable (length (columns_at run.plan.nodes input)) (slice_index (key_bounds run.plan.nodes) input) (table_at (state run step) input)) own_inputs (λ input i. i.bounded) given)))

  own_tables : AreTables own (table_at (state run step)) all
  own_tables = subst (λ o. AreTables o (table_at (state run step)) all) (sym g.op_is) (sym news_are)

  pub own_ticks : AreTicks own (tick run step) all
  own_ticks = subst (λ o. AreTicks o (tick run step) all) (sym g.op_is) (sym (on_inputs tick_of (tick run step) (λ input i. tick_again (tick run step input) i.from.is_tick)))

  -- the table that it has before
  pub shown_are : IsShown own all (table_before run step n)
  shown_are = record {
    tick = tick run step;
    those = own_ticks;
    same = sym (operated_before run step g.entered n g.within g.operator (ticks_are run step g.entered n g.within g.operator g.defined))
        ∙ ap (λ o. (operated o (tick run step)).old) (sym g.op_is);
  }

  pub own_fault : (fault : NodeFault) → ((table : ℕ → PlainTable) → AreTables own table all → fault_of own table ≡ Some fault) → outcome_at (state run step) n ≡ Fault fault
  own_fault fault h = failed run step g.entered n g.within g.operator g.defined fault (ap (λ o. fault_of o (table_at (state run step))) (sym g.op_is) ∙ h (table_at (state run step)) own_tables)

  pub own_change : (change : Change) → ((table : ℕ → PlainTable) → AreTables own table all → fault_of own table ≡ None) → ((tick : ℕ → Tick) → AreTicks own tick all → change ≡ change_of (operated own tick)) → IsOwnChange run step n change
  own_change change sound h =
      let clear = ap (λ o. fault_of o (table_at (state run step))) (sym g.op_is) ∙ sound (table_at (state run step)) own_tables in
      record {
        defined = has run step g.entered n g.within g.operator g.defined clear;
        from = own_tick run step g.entered n g.within g.operator g.defined clear;
        same = h (tick run step) own_ticks ∙ ap (λ o. change_of (operated o (tick run step))) g.op_is ∙ ap change_of (operated_own run step g.entered n g.within g.operator g.defined clear);
      }

  -- what it reads
  pub tried_by : (before after : ℕ) {widths : List ℕ} {change : Change} → widths ≡ input_widths run.plan (op_at run n) → change ≡ change_of (operated own (tick run step))
      → after ≤ before + 4 * (sum widths + result_width own widths) * (counted_in all + counted change.update) → after ≤ before + most_tried run step n
  tried_by before after {widths} {change} widths_is change_is h =
      let room : Op → List ℕ → List Ticking → Change → ℕ = λ o w t k. before + 4 * (sum w + result_width o w) * (counted_in t + counted k.update) in
      let its = change_of (operated (op_at run n) (tick run step)) in
      subst (λ w. after ≤ room (op_at run n) w (map (shown run step) own_inputs) its) widths_is
      (subst (λ t. after ≤ room (op_at run n) widths t its) g.same
      (subst (λ o. after ≤ room o widths all (change_of (operated o (tick run step)))) g.op_is
      (subst (λ k. after ≤ room own widths all k) change_is h)))

-- what is said of a call's value is true of the value that it gave
pub ok_is : {X E : Type 0} (Holds : X → Type 0) {answer : Result X E} {value : X} → answer ≡ Ok value → IfOk answer Holds → Holds value
ok_is Holds is told = subst (λ found. IfOk found Holds) is told
