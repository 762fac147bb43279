-- The outcomes of a plan's nodes, each from those of its inputs, and what holds of their tables where it holds of the sources and
-- each operator keeps it.
use Rattle.std.proofs.Common.{◌≡◌, refl, ap, ap₂, sym, ◌∙◌, subst, ℕ, ◌<◌, ◌&&◌, ◌⊎◌, inl, inr, arith, Bool, true, false, true≢false, List, [], ◌∷◌, take, length, get_or, length-take-le, Option, Some, None}
use Rattle.std.{specs.Prelude.fold, specs.List.{list_all, AllByRecursion}, proofs.lemmas.Bool.and_parts, proofs.lemmas.List.get_or-take}
use Rattle.tick_model.{specs.declared.plan.Node.Node, specs.declared.plan.Op.Op, specs.declared.plan.Op.TheVariants.{Source, Join, Merge, AsOf}, specs.declared.table.NodeFault.NodeFault, specs.declared.table.PlainTable.PlainTable, specs.AsOf.asof_table, specs.Join.{join_fault, join_table}, specs.Merge.{merge_fault, merge_table}, specs.Evaluation.{Outcome, Table, NoInput, has_table, table_of, table_at, outcome_at, or_fault, applied, outcome_of, eval_node, is_source, source_number}, specs.Tables.no_table, specs.Operators.{is_source_op, inputs_of, result, fault_of}}
use Rattle.key_lists.proofs.Every.{every_weaker, map_same}
use Rattle.tick_laws.proofs.Grown.{by_lesser, made_at, length-grown}

-- what a test says of all elements
pub all_pass : {X : Type 0} (p : X → Bool) (xs : List X) → list_all p xs ≡ true → AllByRecursion (λ x. p x ≡ true) xs
all_pass p [] h = tt
all_pass p (x ∷ xs) h = let parts = and_parts (p x) (list_all p xs) h in (parts.0, all_pass p xs parts.1)

list_all_same : {X : Type 0} (p q : X → Bool) (xs : List X) → AllByRecursion (λ x. p x ≡ q x) xs → list_all p xs ≡ list_all q xs
list_all_same p q [] h = refl
list_all_same p q (x ∷ xs) h = ap₂ (λ a b. a && b) h.0 (list_all_same p q xs h.1)

-- a node is a source, or applies its operator
pub outcome_cases : (op : Op) (own : PlainTable) (done : List Outcome)
    → ((is_source_op op ≡ true) × (outcome_of op own done ≡ Table own)) ⊎ ((is_source_op op ≡ false) × (outcome_of op own done ≡ applied op done))
outcome_cases Source own done = inl (refl, refl)
outcome_cases op own done = inr (refl, refl)

pub source_outcome : (op : Op) (own : PlainTable) (done : List Outcome) → is_source_op op ≡ true → outcome_of op own done ≡ Table own
source_outcome op own done is =
    elim (outcome_cases op own done) [
      | inl source ↦ source.1
      | inr other ↦ absurd (true≢false (sym is ∙ other.0))
    ]

pub operator_outcome : (op : Op) (own : PlainTable) (done : List Outcome) → is_source_op op ≡ false → outcome_of op own done ≡ applied op done
operator_outcome op own done is =
    elim (outcome_cases op own done) [
      | inl source ↦ absurd (true≢false (sym source.0 ∙ is))
      | inr other ↦ other.1
    ]

-- an operator reads the tables of its inputs alone
pub result_same : (op : Op) (t u : ℕ → PlainTable) → AllByRecursion (λ n. t n ≡ u n) (inputs_of op) → result op t ≡ result op u
result_same Source t u h = refl
result_same (Join left right on taken choice) t u h = ap₂ (λ x y. join_table on taken choice x y) h.0 h.1.0
result_same (Merge inputs) t u h = ap merge_table (map_same t u inputs h)
result_same (AsOf left right on at taken) t u h = ap₂ (λ x y. asof_table on at taken x y) h.0 h.1.0
result_same op t u h = ap (λ x. result op (λ _. x)) h.0

pub fault_same : (op : Op) (t u : ℕ → PlainTable) → AllByRecursion (λ n. t n ≡ u n) (inputs_of op) → fault_of op t ≡ fault_of op u
fault_same (Join left right on taken choice) t u h = ap₂ (λ x y. join_fault on choice x y) h.0 h.1.0
fault_same (Merge inputs) t u h = ap merge_fault (map_same t u inputs h)
fault_same op t u h = refl

-- what an operator makes, from whether its inputs have tables, its fault and its table
abbrev made : Bool → Option NodeFault → PlainTable → Outcome
made b fault table = elim b [ true ↦ or_fault fault table | false ↦ NoInput ]

applied_same : (op : Op) (done others : List Outcome) → AllByRecursion (λ i. outcome_at done i ≡ outcome_at others i) (inputs_of op) → applied op done ≡ applied op others
applied_same op done others h =
    ap (λ b. made b (fault_of op (table_at done)) (result op (table_at done)))
    (list_all_same (λ i. has_table (outcome_at done i)) (λ i. has_table (outcome_at others i)) (inputs_of op) (every_weaker (λ i. outcome_at done i ≡ outcome_at others i) (λ i. has_table (outcome_at done i) ≡ has_table (outcome_at others i)) (inputs_of op) (λ i e. ap has_table e) h))
    ∙ ap₂ (made (list_all (λ i. has_table (outcome_at others i)) (inputs_of op))) (fault_same op (table_at done) (table_at others) tables) (result_same op (table_at done) (table_at others) tables)
  where
    tables : AllByRecursion (λ i. table_at done i ≡ table_at others i) (inputs_of op)
    tables = every_weaker (λ i. outcome_at done i ≡ outcome_at others i) (λ i. table_at done i ≡ table_at others i) (inputs_of op) (λ i e. ap table_of e) h

outcome_same : (op : Op) (own : PlainTable) (done others : List Outcome) → AllByRecursion (λ i. outcome_at done i ≡ outcome_at others i) (inputs_of op) → outcome_of op own done ≡ outcome_of op own others
outcome_same Source own done others h = refl
outcome_same op own done others h = applied_same op done others h

-- an operator that has a table has its inputs' tables and no fault
pub record IsApplied (op : Op) (done : List Outcome) : Type 0 where
  pub inputs : AllByRecursion (λ input. has_table (outcome_at done input) ≡ true) (inputs_of op)
  pub fault : fault_of op (table_at done) ≡ None
  pub table : table_of (applied op done) ≡ result op (table_at done)

pub applied_has : (op : Op) (done : List Outcome) → has_table (applied op done) ≡ true → IsApplied op done
applied_has op done h = go (list_all (λ input. has_table (outcome_at done input)) (inputs_of op)) refl (fault_of op (table_at done)) refl h
  where
    go : (b : Bool) → list_all (λ input. has_table (outcome_at done input)) (inputs_of op) ≡ b → (fault : Option NodeFault) → fault_of op (table_at done) ≡ fault
        → has_table (made b fault (result op (table_at done))) ≡ true → IsApplied op done
    go true e None f h = record {
      inputs = all_pass (λ input. has_table (outcome_at done input)) (inputs_of op) e;
      fault = f;
      table = ap (λ b. table_of (made b (fault_of op (table_at done)) (result op (table_at done)))) e ∙ ap (λ o. table_of (made true o (result op (table_at done)))) f;
    }
    go true e (Some fault) f h = absurd (true≢false (sym h))
    go false e fault f h = absurd (true≢false (sym h))

module _ (nodes : List Node) (d : Node) (sources : List PlainTable) where
  abbrev node_at : ℕ → Node
  node_at n = get_or nodes n d

  abbrev O : List Outcome
  O = fold (eval_node nodes sources) [] nodes

  abbrev own_table : ℕ → PlainTable
  own_table n = get_or sources (source_number nodes n) no_table

  pub length_outcomes : length O ≡ length nodes
  length_outcomes = length-grown NoInput d (λ done node. outcome_of node.op (get_or sources (source_number nodes (length done)) no_table) done) [] nodes ∙ omega arith

  made_outcome : (n : ℕ) → n < length nodes → get_or O n NoInput ≡ outcome_of (node_at n).op (own_table n) (take n O)
  made_outcome n h =
      made_at NoInput d (λ done node. outcome_of node.op (get_or sources (source_number nodes (length done)) no_table) done) [] nodes n n h (omega arith)
      ∙ ap (λ k. outcome_of (node_at n).op (get_or sources (source_number nodes k) no_table) (take n O)) (length-take-le n O (omega (arith, length_outcomes, h)))

  module _ (lesser : (n : ℕ) → n < length nodes → AllByRecursion (λ input. input < n) (inputs_of (node_at n).op)) where
    -- a node's outcome is that of its operator over all outcomes
    pub outcome_is : (n : ℕ) → n < length nodes → get_or O n NoInput ≡ outcome_of (node_at n).op (own_table n) O
    outcome_is n h =
        made_outcome n h
        ∙ outcome_same (node_at n).op (own_table n) (take n O) O
        (every_weaker (λ i. i < n) (λ i. outcome_at (take n O) i ≡ outcome_at O i) (inputs_of (node_at n).op) (λ i less. get_or-take n O i NoInput less) (lesser n h))

    -- what is known of inputs that have tables
    inputs_have : (P : ℕ → PlainTable → Type 0) (n : ℕ) → ((k : ℕ) → k < n → has_table (get_or O k NoInput) ≡ true → P k (table_at O k))
        → (inputs : List ℕ) → AllByRecursion (λ input. input < n) inputs → AllByRecursion (λ input. has_table (outcome_at O input) ≡ true) inputs → AllByRecursion (λ input. P input (table_at O input)) inputs
    inputs_have P n before [] l h = tt
    inputs_have P n before (input ∷ inputs) l h = (before input l.0 h.0, inputs_have P n before inputs l.1 h.1)

    module _ (P : ℕ → PlainTable → Type 0)
        (of_source : (n : ℕ) → n < length nodes → is_source (node_at n) ≡ true → P n (own_table n))
        (of_operator : (n : ℕ) → n < length nodes → is_source (node_at n) ≡ false → (table : ℕ → PlainTable) → AllByRecursion (λ input. P input (table input)) (inputs_of (node_at n).op)
        → fault_of (node_at n).op table ≡ None → P n (result (node_at n).op table)) where
      node_has : (n : ℕ) → n < length nodes → ((k : ℕ) → k < n → has_table (get_or O k NoInput) ≡ true → P k (table_at O k))
          → has_table (outcome_of (node_at n).op (own_table n) O) ≡ true → P n (table_of (outcome_of (node_at n).op (own_table n) O))
      node_has n within before h =
          elim (outcome_cases (node_at n).op (own_table n) O) [
            | inl own ↦ subst (λ (o : Outcome). P n (table_of o)) (sym own.1) (of_source n within own.0)
            | inr by_inputs ↦
                let is = applied_has (node_at n).op O (ap has_table (sym by_inputs.1) ∙ h) in
                subst (P n) (sym (ap table_of by_inputs.1 ∙ is.table)) (of_operator n within by_inputs.0 (table_at O) (inputs_have P n before (inputs_of (node_at n).op) (lesser n within) is.inputs) is.fault)
          ]

      -- each node that has a table has such a one
      pub each_node_has : (n : ℕ) → n < length nodes → has_table (get_or O n NoInput) ≡ true → P n (table_at O n)
      each_node_has = by_lesser (λ n. n < length nodes → has_table (get_or O n NoInput) ≡ true → P n (table_at O n)) (λ n before within h.
          let is = outcome_is n within in
          subst (λ (o : Outcome). P n (table_of o)) (sym is) (node_has n within (λ k below. before k below (omega (arith, below, within))) (ap has_table (sym is) ∙ h)))
