-- Each node's change is a tick, from its table at one step to its table at the next.
use Rattle.std.proofs.Common.{◌≡◌, refl, ap, sym, ◌∙◌, subst, ℕ, ◌<◌, inl, inr, arith, true, false, List, [], length, get_or}
use Rattle.std.{specs.Prelude.fold, specs.List.AllByRecursion}
use Rattle.tick_model.{specs.declared.plan.Node.Node, specs.declared.plan.Op.Op, specs.declared.table.PlainTable.PlainTable, specs.Tables.{IsTable, no_table}, specs.Updates.{Tick, IsTick}, specs.Evaluation.{Outcome, NoInput, has_table, table_of, table_at, applied, outcome_of, eval_node, source_number}, specs.Operators.{inputs_of, result, kept_by, is_source_op}, specs.Sources.{no_tick, tick_at}, specs.States.tick_node}
use Rattle.key_lists.proofs.Every.{every_weaker}
use Rattle.tick_laws.{specs.Reached.IsTickFrom, proofs.EvalNodes.{applied_has, operator_outcome, outcome_is, result_same, source_outcome}, proofs.Grown.by_lesser, proofs.OperatorTicks.operator_keeps, proofs.TickNodes.{tick_cases, tick_from, tick_is}}

module _ (nodes : List Node) (d : Node) (olds news : List PlainTable) (own : List Tick)
    (lesser : (n : ℕ) → n < length nodes → AllByRecursion (λ input. input < n) (inputs_of (get_or nodes n d).op)) where
  abbrev op_at : ℕ → Op
  op_at n = (get_or nodes n d).op

  abbrev O : List Outcome
  O = fold (eval_node nodes olds) [] nodes

  abbrev N : List Outcome
  N = fold (eval_node nodes news) [] nodes

  abbrev T : List Tick
  T = fold (tick_node nodes own (table_at O) (table_at N)) [] nodes

  -- the tick of a node between two lists of outcomes
  abbrev IsNodeTick : ℕ → Tick → Type 0
  IsNodeTick n tick = IsTickFrom (table_at O n) (table_at N n) tick

  module _ (old_tables : (n : ℕ) → n < length nodes → has_table (get_or O n NoInput) ≡ true)
      (new_tables : (n : ℕ) → n < length nodes → has_table (get_or N n NoInput) ≡ true)
      (old_fine : (n : ℕ) → IsTable (table_at O n))
      (new_fine : (n : ℕ) → IsTable (table_at N n))
      (own_ticks : (place : ℕ) → IsTick (tick_at own place))
      (own_old : (place : ℕ) → (tick_at own place).old ≡ get_or olds place no_table)
      (own_new : (place : ℕ) → (tick_at own place).new ≡ get_or news place no_table) where
    source_tick : (n : ℕ) → n < length nodes → is_source_op (op_at n) ≡ true → IsNodeTick n (tick_at own (source_number nodes n))
    source_tick n h is =
        let place = source_number nodes n in
        record {
          is_tick = own_ticks place;
          old_is = own_old place ∙ ap table_of (sym (outcome_is nodes d olds lesser n h ∙ source_outcome (op_at n) (get_or olds place no_table) O is));
          new_is = own_new place ∙ ap table_of (sym (outcome_is nodes d news lesser n h ∙ source_outcome (op_at n) (get_or news place no_table) N is));
        }

    -- the results over the inputs' tables are the tables of the steps
    result_is : (sources : List PlainTable) (outcomes : List Outcome) → outcomes ≡ fold (eval_node nodes sources) [] nodes → (n : ℕ) → n < length nodes → is_source_op (op_at n) ≡ false → has_table (get_or outcomes n NoInput) ≡ true
        → (table : ℕ → PlainTable) → AllByRecursion (λ k. table k ≡ table_at outcomes k) (inputs_of (op_at n)) → result (op_at n) table ≡ table_at outcomes n
    result_is sources outcomes e n h is has table same =
        let made : get_or outcomes n NoInput ≡ applied (op_at n) outcomes =
        ap (λ os. get_or os n NoInput) e ∙ outcome_is nodes d sources lesser n h ∙ ap (outcome_of (op_at n) (get_or sources (source_number nodes n) no_table)) (sym e) ∙ operator_outcome (op_at n) (get_or sources (source_number nodes n) no_table) outcomes is
        in
        result_same (op_at n) table (table_at outcomes) same ∙ sym (applied_has (op_at n) outcomes (ap has_table (sym made) ∙ has)).table ∙ ap table_of (sym made)

    operator_tick : (n : ℕ) → n < length nodes → is_source_op (op_at n) ≡ false → AllByRecursion (λ k. IsNodeTick k (tick_at T k)) (inputs_of (op_at n)) → IsNodeTick n (tick_from (table_at O n) (table_at N n) (kept_by (op_at n) (tick_at T) (table_at O n) (table_at N n)))
    operator_tick n h is inputs =
        let op = op_at n in
        let from : PlainTable → PlainTable → Tick = λ old new. tick_from old new (kept_by op (tick_at T) old new) in
        let e = result_is olds O refl n h is (old_tables n h) (λ k. (tick_at T k).old) (every_weaker (λ k. IsNodeTick k (tick_at T k)) (λ k. (tick_at T k).old ≡ table_at O k) (inputs_of op) (λ k t. t.old_is) inputs) in
        let f = result_is news N refl n h is (new_tables n h) (λ k. (tick_at T k).new) (every_weaker (λ k. IsNodeTick k (tick_at T k)) (λ k. (tick_at T k).new ≡ table_at N k) (inputs_of op) (λ k t. t.new_is) inputs) in
        record {
          is_tick =
              subst (λ old. IsTick (from old (table_at N n))) e
              (subst (λ new. IsTick (from (result op (λ k. (tick_at T k).old)) new)) f
              (operator_keeps op (tick_at T) (every_weaker (λ k. IsNodeTick k (tick_at T k)) (λ k. IsTick (tick_at T k)) (inputs_of op) (λ k t. t.is_tick) inputs) (subst IsTable (sym e) (old_fine n)) (subst IsTable (sym f) (new_fine n))));
          old_is = refl;
          new_is = refl;
        }

    pub each_node_tick : (n : ℕ) → n < length nodes → IsTickFrom (table_at O n) (table_at N n) (get_or T n no_tick)
    each_node_tick = by_lesser (λ n. n < length nodes → IsNodeTick n (get_or T n no_tick)) (λ n before h.
        subst (IsNodeTick n) (sym (tick_is nodes d own (table_at O) (table_at N) n h (lesser n h)))
        (elim (tick_cases (op_at n) (tick_at own (source_number nodes n)) T (table_at O n) (table_at N n)) [
          | inl source ↦ subst (IsNodeTick n) (sym source.1) (source_tick n h source.0)
          | inr made ↦
              subst (IsNodeTick n) (sym made.1)
              (operator_tick n h made.0 (every_weaker (λ k. k < n) (λ k. IsNodeTick k (tick_at T k)) (inputs_of (op_at n)) (λ k below. before k below (omega (arith, below, h))) (lesser n h)))
        ]))
