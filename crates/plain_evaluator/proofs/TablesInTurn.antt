-- How far an evaluation has come, and what its next step adds.
use Rattle.std.proofs.Common.{◌≡◌, refl, ap, ap₂, cond, length-append, true≢false, sym, ◌∙◌, subst, ℕ, zero, suc, ◌+◌, ◌^◌, ◌<◌, arith, true, inl, inr, List, [], ◌∷◌, ◌++◌, map, take, length, get_or, Option, Some, None, Err, append_assoc}
use Rattle.std.{specs.Prelude.fold, specs.List.AllByRecursion, proofs.lemmas.List.{length-map, map-append, get_or-map, get_or_append_left, append-nil}, proofs.Math.Seq.get_or-append_seam, proofs.lemmas.Bool.cases_lt, proofs.lemmas.List.Sums.fold_more}
use Rattle.key_lists.proofs.Every.{every_weaker}
use Rattle.tick_model.{specs.declared.plan.ColumnSpec.ColumnSpec, specs.declared.plan.Node.Node, specs.declared.plan.Op.Op, specs.declared.plan.Op.TheVariants.Source, specs.declared.plan.Plan.Plan, specs.declared.table.NodeFault.NodeFault, specs.declared.table.PlainTable.PlainTable, specs.Evaluation.{Outcome, Table, Fault, table_of, source_number, eval, eval_node, outcome_of, is_source, or_fault}, specs.Tables.no_table, specs.Operators.{inputs_of, is_source_op, fault_of, result, bound_of, IsReady, IsNodeReady}, specs.Fits.fit_sources, specs.Plans.{is_lawful, columns_at}, specs.Ready.table_in, specs.Spoiled.{node_fault, ByNode}, proofs.KeyBounds.{key_bound, bound_here}, proofs.LawfulNodes.{IsLawfulNode, lawful_node}, proofs.Results.{IsResult, AreResults, IsOperator, result_is}, proofs.SourceTables.{IsSourceAt, source_at, source_result}}
use Rattle.plain_evaluator.{specs.declared.operators.NoTable.NoTable, specs.declared.operators.NoTable.TheVariants.{Memory as NoMemory, Fault as NoTableFault}, specs.Gives.Gives, specs.Stops.{IsCause, stop_at}, proofs.ReadyOperators.{ready_is, operator_outcome}}

-- the first nodes' tables are made and keep to their nodes, and so many sources were used
pub record IsEvaluated (nodes : List Node) (sources tables : List PlainTable) (count next : ℕ) : Type 0 where
  pub made : fold (eval_node nodes sources) [] (take count nodes) ≡ map Table tables
  pub next_is : next ≡ source_number nodes count
  pub count_is : length tables ≡ count
  pub results : (k : ℕ) → k < count → IsResult (length (columns_at nodes k)) (key_bound nodes k) (table_in tables k)

-- what is known of the next node
record IsNext (nodes : List Node) (sources : List PlainTable) (count : ℕ) (node : Node) : Type 0 where
  lawful : IsLawfulNode nodes count node
  source : is_source node ≡ true → IsSourceAt (length node.columns) sources (source_number nodes count)
  bound : key_bound nodes count ≡ bound_of node.op (key_bound nodes)
  columns : columns_at nodes count ≡ node.columns

next_node : (plan : Plan) (sources : List PlainTable) (count : ℕ) (node : Node) → is_lawful plan ≡ true → fit_sources plan sources ≡ true → count < length plan.nodes → node ≡ get_or plan.nodes count node
    → IsNext plan.nodes sources count node
next_node plan sources count node lawful fit within here =
    let own = lawful_node plan count node lawful within here in
    record {
      lawful = own;
      source = λ is. source_at plan.nodes sources count node fit within here is;
      bound = bound_here plan.nodes count node within here own.lesser;
      columns = get_or-map (λ (n : Node). n.columns) plan.nodes count node [] within ∙ ap (λ (n : Node). n.columns) (sym here);
    }

-- the tables of its inputs are there, and keep to their nodes
known_inputs : (nodes : List Node) (sources tables : List PlainTable) (count next : ℕ) (inputs : List ℕ) → IsEvaluated nodes sources tables count next → AllByRecursion (λ input. input < count) inputs → AllByRecursion (λ input. input < length tables) inputs
known_inputs nodes sources tables count next inputs h = every_weaker (λ input. input < count) (λ input. input < length tables) inputs (λ input before. omega (arith, before, h.count_is))

input_results : (nodes : List Node) (sources tables : List PlainTable) (count next : ℕ) (inputs : List ℕ) → IsEvaluated nodes sources tables count next → AllByRecursion (λ input. input < count) inputs
    → AreResults (λ input. length (columns_at nodes input)) (key_bound nodes) (table_in tables) inputs
input_results nodes sources tables count next inputs h =
    every_weaker (λ input. input < count) (λ input. IsResult (length (columns_at nodes input)) (key_bound nodes input) (table_in tables input)) inputs (λ input before. h.results input before)

-- a node is a source or has an operator
by_kind : {P : Type 0} (op : Op) → (is_source_op op ≡ true → P) → (IsOperator op → P) → P
by_kind Source s o = s refl
by_kind op s o = o refl

source_is : (op : Op) → is_source_op op ≡ true → op ≡ Source
source_is Source e = refl
source_is op e = absurd (true≢false (sym e))

node_ready : (op : Op) (sources : List PlainTable) (place : ℕ) (tables : List PlainTable) → (is_source_op op ≡ true → place < length sources) → (IsOperator op → IsReady op tables) → IsNodeReady op sources place tables
node_ready Source sources place tables s o = s refl
node_ready op sources place tables s o = o refl

-- the next node may be brought up
ready_next : (nodes : List Node) (sources tables : List PlainTable) (count next : ℕ) (node : Node) → IsNext nodes sources count node → IsEvaluated nodes sources tables count next → IsNodeReady node.op sources next tables
ready_next nodes sources tables count next node known h =
    node_ready node.op sources next tables (λ is. subst (λ place. place < length sources) (sym h.next_is) (known.source is).within)
    (λ o. ready_is node.op (columns_at nodes) (key_bound nodes) tables node.columns o known.lawful.fits known.lawful.narrow (known_inputs nodes sources tables count next (inputs_of node.op) h known.lawful.lesser)
    (input_results nodes sources tables count next (inputs_of node.op) h known.lawful.lesser) (subst (λ n. n < 2 ^ 62) known.bound known.lawful.room))

-- a table that comes of an operator without a fault is its result
or_fault_table : (fault : Option NodeFault) (made table : PlainTable) → or_fault fault made ≡ Table table → (fault ≡ None) × (made ≡ table)
or_fault_table None made table e = (refl, ap table_of e)
or_fault_table (Some fault) made table e = absurd (cc)

-- the next node's table keeps to it
result_next : (nodes : List Node) (sources tables : List PlainTable) (count next : ℕ) (node : Node) (table : PlainTable) → IsNext nodes sources count node → IsEvaluated nodes sources tables count next
    → outcome_of node.op (table_in sources next) (map Table tables) ≡ Table table → IsResult (length (columns_at nodes count)) (key_bound nodes count) table
result_next nodes sources tables count next node table known h e =
    subst (λ (columns : List ColumnSpec). IsResult (length columns) (key_bound nodes count) table) (sym known.columns)
    (subst (λ bound. IsResult (length node.columns) bound table) (sym known.bound) (by_kind node.op of_source of_operator))
  where
    of_source : is_source_op node.op ≡ true → IsResult (length node.columns) (bound_of node.op (key_bound nodes)) table
    of_source is =
        let source = source_is node.op is in
        let own : table_in sources (source_number nodes count) ≡ table = ap (table_in sources) (sym h.next_is) ∙ ap table_of (sym (ap (λ op. outcome_of op (table_in sources next) (map Table tables)) source) ∙ e) in
        subst (λ bound. IsResult (length node.columns) bound table) (ap (λ op. bound_of op (key_bound nodes)) (sym source))
        (subst (IsResult (length node.columns) (2 ^ 40)) own (source_result (length node.columns) (table_in sources (source_number nodes count)) (known.source is).fits))

    of_operator : IsOperator node.op → IsResult (length node.columns) (bound_of node.op (key_bound nodes)) table
    of_operator o =
        let parts = or_fault_table (fault_of node.op (table_in tables)) (result node.op (table_in tables)) table
        (sym (operator_outcome node.op (table_in sources next) tables o (known_inputs nodes sources tables count next (inputs_of node.op) h known.lawful.lesser)) ∙ e) in
        subst (IsResult (length node.columns) (bound_of node.op (key_bound nodes))) parts.1
        (result_is node.op (columns_at nodes) (key_bound nodes) (table_in tables) node.columns o known.lawful.fits (input_results nodes sources tables count next (inputs_of node.op) h known.lawful.lesser) parts.0)

-- one outcome more
outcomes_more : (nodes : List Node) (sources tables : List PlainTable) (count next : ℕ) (node : Node) (outcome : Outcome) → count < length nodes → node ≡ get_or nodes count node → IsEvaluated nodes sources tables count next
    → outcome_of node.op (table_in sources next) (map Table tables) ≡ outcome → fold (eval_node nodes sources) [] (take (count + 1) nodes) ≡ map Table tables ++ outcome ∷ []
outcomes_more nodes sources tables count next node outcome within here h e =
    fold_more (eval_node nodes sources) [] nodes count node within
    ∙ ap₂ (eval_node nodes sources) h.made (sym here)
    ∙ ap (λ place. map Table tables ++ outcome_of node.op (get_or sources place no_table) (map Table tables) ∷ []) (ap (source_number nodes) (length-map tables Table ∙ h.count_is) ∙ sym h.next_is)
    ∙ ap (λ outcome. map Table tables ++ outcome ∷ []) e

-- one node more
evaluated_more : (nodes : List Node) (sources tables : List PlainTable) (count next : ℕ) (node : Node) (table : PlainTable) → count < length nodes → node ≡ get_or nodes count node → IsNext nodes sources count node
    → IsEvaluated nodes sources tables count next → outcome_of node.op (table_in sources next) (map Table tables) ≡ Table table
    → IsEvaluated nodes sources (tables ++ table ∷ []) (count + 1) (next + cond (is_source node) 1 0)
evaluated_more nodes sources tables count next node table within here known h e = record {
  made = outcomes_more nodes sources tables count next node (Table table) within here h e ∙ sym (map-append Table tables (table ∷ []));
  next_is = ap₂ (λ number n. number + cond (is_source n) 1 0) h.next_is here ∙ sym (fold_more (λ number n. number + cond (is_source n) 1 0) 0 nodes count node within);
  count_is = length-append tables (table ∷ []) ∙ ap (λ n. n + 1) h.count_is;
  results = λ k more. elim (cases_lt k count) [
    | inl before ↦ subst (IsResult (length (columns_at nodes k)) (key_bound nodes k)) (sym (get_or_append_left tables (table ∷ []) no_table k (omega (arith, before, h.count_is)))) (h.results k before)
    | inr last ↦
        let at_count : length tables ≡ k = omega (arith, last, more, h.count_is) in
        subst (λ k. IsResult (length (columns_at nodes k)) (key_bound nodes k) (table_in (tables ++ table ∷ []) k)) at_count
        (subst (IsResult (length (columns_at nodes (length tables))) (key_bound nodes (length tables))) (sym (get_or-append_seam tables table [] no_table))
        (subst (λ k. IsResult (length (columns_at nodes k)) (key_bound nodes k) table) (sym h.count_is) (result_next nodes sources tables count next node table known h e)))
  ];
}

-- what is not evaluated yet comes after
outcomes_go_on : (all : List Node) (sources : List PlainTable) (nodes : List Node) (done : List Outcome) → (others : List Outcome) × (fold (eval_node all sources) done nodes ≡ done ++ others)
outcomes_go_on all sources [] done = ([], sym (append-nil done))
outcomes_go_on all sources (node ∷ nodes) done =
    let outcome = outcome_of node.op (get_or sources (source_number all (length done)) no_table) done in
    let more = outcomes_go_on all sources nodes (done ++ outcome ∷ []) in
    (outcome ∷ more.0, more.1 ∙ append_assoc done (outcome ∷ []) more.0)

outcomes_first : (all : List Node) (sources : List PlainTable) (nodes : List Node) (n : ℕ) (done : List Outcome) → (others : List Outcome) × (fold (eval_node all sources) done nodes ≡ fold (eval_node all sources) done (take n nodes) ++ others)
outcomes_first all sources nodes zero done = outcomes_go_on all sources nodes done
outcomes_first all sources [] (suc n) done = ([], sym (append-nil done))
outcomes_first all sources (node ∷ nodes) (suc n) done = outcomes_first all sources nodes n (eval_node all sources done node)

-- the first fault after so many tables
fault_after : (tables : List PlainTable) (number : ℕ) (fault : NodeFault) (others : List Outcome) → node_fault number (map Table tables ++ Fault fault ∷ others) ≡ Some (ByNode (number + length tables) fault)
fault_after [] number fault others = ap (λ n. Some (ByNode n fault)) (omega arith)
fault_after (table ∷ tables) number fault others = fault_after tables (number + 1) fault others ∙ ap (λ n. Some (ByNode n fault)) (omega arith)

fault_here : (plan : Plan) (sources tables : List PlainTable) (count next : ℕ) (node : Node) (fault : NodeFault) → count < length plan.nodes → node ≡ get_or plan.nodes count node → IsEvaluated plan.nodes sources tables count next
    → outcome_of node.op (table_in sources next) (map Table tables) ≡ Fault fault → node_fault 0 (eval plan sources) ≡ Some (ByNode (length tables) fault)
fault_here plan sources tables count next node fault within here h e =
    let more = outcomes_first plan.nodes sources plan.nodes (count + 1) [] in
    let number : 0 + length tables ≡ length tables = omega arith in
    ap (node_fault 0) (more.1 ∙ ap (λ first. first ++ more.0) (outcomes_more plan.nodes sources tables count next node (Fault fault) within here h e) ∙ append_assoc (map Table tables) (Fault fault ∷ []) more.0)
    ∙ fault_after tables 0 fault more.0 ∙ ap (λ n. Some (ByNode n fault)) number

-- The same, at what the loop knows: own, shown, after and listed are what calls gave.
pub record IsStep (plan : Plan) (sources tables own shown : List PlainTable) (nodes : List Node) (count next : ℕ) (node : Node) : Type 0 where
  pub lawful : is_lawful plan ≡ true
  pub fit : fit_sources plan sources ≡ true
  pub listed : nodes ≡ plan.nodes
  pub owned : own ≡ sources
  pub seen : shown ≡ tables
  pub within : count < length nodes
  pub here : node ≡ get_or nodes count node
  pub evaluated : IsEvaluated plan.nodes sources tables count next

step_within : (plan : Plan) (sources tables own shown : List PlainTable) (nodes : List Node) (count next : ℕ) (node : Node) → IsStep plan sources tables own shown nodes count next node → count < length plan.nodes
step_within plan sources tables own shown nodes count next node s = subst (λ nodes. count < length nodes) s.listed s.within

step_here : (plan : Plan) (sources tables own shown : List PlainTable) (nodes : List Node) (count next : ℕ) (node : Node) → IsStep plan sources tables own shown nodes count next node → node ≡ get_or plan.nodes count node
step_here plan sources tables own shown nodes count next node s = s.here ∙ ap (λ nodes. get_or nodes count node) s.listed

step_outcome : (plan : Plan) (sources tables own shown : List PlainTable) (nodes : List Node) (count next : ℕ) (node : Node) (outcome : Outcome) → IsStep plan sources tables own shown nodes count next node
    → outcome_of node.op (table_in own next) (map Table shown) ≡ outcome → outcome_of node.op (table_in sources next) (map Table tables) ≡ outcome
step_outcome plan sources tables own shown nodes count next node outcome s e = ap₂ (λ own shown. outcome_of node.op (table_in own next) (map Table shown)) (sym s.owned) (sym s.seen) ∙ e

step_next : (plan : Plan) (sources tables own shown : List PlainTable) (nodes : List Node) (count next : ℕ) (node : Node) → IsStep plan sources tables own shown nodes count next node → IsNext plan.nodes sources count node
step_next plan sources tables own shown nodes count next node s =
    next_node plan sources count node s.lawful s.fit (step_within plan sources tables own shown nodes count next node s) (step_here plan sources tables own shown nodes count next node s)

pub step_ready : (plan : Plan) (sources tables own shown : List PlainTable) (nodes : List Node) (count next : ℕ) (node : Node) → IsStep plan sources tables own shown nodes count next node → IsNodeReady node.op own next shown
step_ready plan sources tables own shown nodes count next node s =
    subst (λ own. IsNodeReady node.op own next shown) (sym s.owned) (subst (IsNodeReady node.op sources next) (sym s.seen)
    (ready_next plan.nodes sources tables count next node (step_next plan sources tables own shown nodes count next node s) s.evaluated))

pub step_more : (plan : Plan) (sources tables own shown after : List PlainTable) (nodes : List Node) (count next next' : ℕ) (node : Node) (table : PlainTable) → IsStep plan sources tables own shown nodes count next node
    → outcome_of node.op (table_in own next) (map Table shown) ≡ Table table → after ≡ tables ++ table ∷ [] → next' ≡ next + cond (is_source node) 1 0 → IsEvaluated plan.nodes sources after (count + 1) next'
step_more plan sources tables own shown after nodes count next next' node table s e pushed counted =
    subst (λ tables. IsEvaluated plan.nodes sources tables (count + 1) next') (sym pushed)
    (subst (IsEvaluated plan.nodes sources (tables ++ table ∷ []) (count + 1)) (sym counted)
    (evaluated_more plan.nodes sources tables count next node table (step_within plan sources tables own shown nodes count next node s) (step_here plan sources tables own shown nodes count next node s)
    (step_next plan sources tables own shown nodes count next node s) s.evaluated (step_outcome plan sources tables own shown nodes count next node (Table table) s e)))

step_fault : (plan : Plan) (sources tables own shown : List PlainTable) (nodes : List Node) (count next : ℕ) (node : Node) (fault : NodeFault) → IsStep plan sources tables own shown nodes count next node
    → outcome_of node.op (table_in own next) (map Table shown) ≡ Fault fault → node_fault 0 (eval plan sources) ≡ Some (ByNode (length tables) fault)
step_fault plan sources tables own shown nodes count next node fault s e =
    fault_here plan sources tables count next node fault (step_within plan sources tables own shown nodes count next node s) (step_here plan sources tables own shown nodes count next node s)
    s.evaluated (step_outcome plan sources tables own shown nodes count next node (Fault fault) s e)

pub step_stop : (plan : Plan) (sources tables own shown : List PlainTable) (nodes : List Node) (count next number : ℕ) (node : Node) (stop : NoTable) → IsStep plan sources tables own shown nodes count next node
    → number ≡ length tables → Gives (Err stop) (outcome_of node.op (table_in own next) (map Table shown)) → IsCause (eval plan sources) (stop_at number stop)
step_stop plan sources tables own shown nodes count next number node NoMemory s n g = tt
step_stop plan sources tables own shown nodes count next number node (NoTableFault fault) s n g =
    step_fault plan sources tables own shown nodes count next node fault s g ∙ ap (λ n. Some (ByNode n fault)) (sym n)
