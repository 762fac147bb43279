-- A step's nodes, one more at a time.
use Rattle.std.proofs.Common.{◌≡◌, refl, ap, ap₂, sym, ◌∙◌, subst, ℕ, suc, ◌+◌, ◌<◌, ◌≤◌, ◌==◌, arith, inl, inr, Bool, true, false, cond, not, List, [], ◌∷◌, ◌++◌, map, drop, length, get_or, Option, Some, None}
use Rattle.std.{specs.Arc.arc_value, specs.Prelude.{count_by, filter, option_map}, specs.List.range_with_len, specs.declared.alloc.Global.Global, specs.declared.sync.Arc.Arc, proofs.Math.Seq.drop-cons, proofs.lemmas.Bool.cases_lt, proofs.lemmas.List.{drop_all, get_or-map, get_or_past, length-map, map_push}, proofs.lemmas.List.FromFn.{get_or-map-range_with_len, length-map-range_with_len, map-range_with_len_more, get_or-range_with_len, length-range_with_len}, proofs.lemmas.List.Kept.AllPairs-filter}
use Rattle.table_operator.specs.Inputs.{tables}
use Rattle.tick_laws.{specs.Bounded.AreSourceTables, specs.Reached.IsReached, proofs.EvalNodes.length_outcomes, proofs.LawfulSources.sources_bounded, proofs.Paired.source_there}
use Rattle.tick_model.{specs.declared.feed.Run.Run, specs.declared.plan.Node.Node, specs.declared.table.NodeFault.NodeFault, specs.declared.table.PlainTable.PlainTable, specs.Evaluation.{Outcome, Table, Fault, NoInput, is_source, outcome_at, source_number}, specs.LawfulRuns.{IsLawfulRun, sources_of}, specs.Sources.{new_table, no_tick, source_ticks, sources}, specs.Spoiled.{ByNode, Cause, node_fault}, specs.States.state}
use Rattle.tick_table.{specs.Exact.ticking, specs.Ticking.Ticking}
use mathlib.Core.Option.{some, some-injective}
use lib.ListN.{get_elem?}
use Rattle.graph_words.{specs.declared.graph.Edge.Edge, specs.Seats.HasEachOnce, proofs.Marks.below_of}
use Rattle.update_graph.{specs.Edges.edges_of, specs.Entered.IsEntered, specs.Faults.fault_in, specs.Graphs.{RanInOrder, RanOnce, reads_at, sources_shown}, specs.Stands.{HasStepped, is_defined, shown}, specs.Tags.{Kept, Tag, all_reads, is_operator, named, no_node, node_at, operators, tag, tags}, proofs.ClaimedWorks.count_works, proofs.EnteredTicks.{source_table_at, tick_of_source}, proofs.PlanEdges.{edge_ends, item_there}, proofs.Numbering.{count_filter, count_none, count_only}}

-- one more tag
pub tags_more : (run : Run) (step n : ℕ) (before after : List Tag) (next : Tag) → after ≡ before ++ next ∷ [] → before ≡ tags run step n → next ≡ tag run step n → after ≡ tags run step (n + 1)
tags_more run step n before after next pushed so_far own =
    pushed ∙ ap₂ (λ these last. these ++ last ∷ []) so_far own ∙ sym (map-range_with_len_more (tag run step) 0 n n (omega arith))

pub works_more : (run : Run) (step n : ℕ) (before after : List Kept) (next : Kept) → after ≡ before ++ next ∷ [] → map named before ≡ tags run step n → named next ≡ tag run step n → map named after ≡ tags run step (n + 1)
works_more run step n before after next pushed = tags_more run step n (map named before) (map named after) (named next) (ap (map named) pushed ∙ map_push named before next)

pub length-tags : (run : Run) (step n : ℕ) → length (tags run step n) ≡ n
length-tags run step n = length-map-range_with_len (tag run step) 0 n

pub tag_at : (run : Run) (step n k : ℕ) (d : Tag) → k < n → get_or (tags run step n) k d ≡ tag run step k
tag_at run step n k d less = get_or-map-range_with_len (tag run step) 0 n k k d less (omega arith)

-- one of so many tags
pub is_tag : (run : Run) (step n k : ℕ) (all : List Tag) (one : Tag) → all ≡ tags run step n → k < length all → one ≡ get_or all k one → one ≡ tag run step k
is_tag run step n k all one same within there =
    let a = ap length same in
    let b = length-tags run step n in
    there ∙ ap (λ these. get_or these k one) same ∙ tag_at run step n k one (omega arith)

pub is_named : (run : Run) (step n k : ℕ) (all : List Kept) (one : Kept) → map named all ≡ tags run step n → k < length all → one ≡ get_or all k one → named one ≡ tag run step k
is_named run step n k all one same within there =
    let long = length-map all named in
    is_tag run step n k (map named all) (named one) same (omega (arith, long, within)) (ap named there ∙ sym (get_or-map named all k one (named one) within))

-- the place of a source
as_many : (sources : List Node) (tables : List PlainTable) → AreSourceTables sources tables → length tables ≡ length sources
as_many [] [] h = refl
as_many [] (table ∷ tables) h = absurd h
as_many (source ∷ sources) [] h = absurd h
as_many (source ∷ sources) (table ∷ tables) h = ap suc (as_many sources tables h.1)

module _ (run : Run) (step : ℕ) (e : IsEntered run step) (own : List (Arc Ticking Global)) (same : tables own ≡ sources_shown run step) (n : ℕ) (within : n < length run.plan.nodes) (is : is_source (node_at run n) ≡ true) where
  abbrev place : ℕ
  place = source_number run.plan.nodes n

  pub place_within : place < length (source_ticks run step)
  place_within =
      let there = (source_there run.plan.nodes n within is).0 in
      let many = as_many (sources_of run.plan.nodes) (sources run step) (sources_bounded run e.lawful step e.batches) in
      let long = length-map (source_ticks run step) new_table in
      omega arith

  pub place_there : place < length own
  place_there =
      let here = place_within in
      let a = length-map own (λ (x : Arc Ticking Global). arc_value {X = Ticking} x) in
      let b = ap length same in
      let c = length-map (source_ticks run step) ticking in
      omega arith

  pub source_defined : is_defined run step n ≡ true
  source_defined = (source_table_at run e.lawful step n within is).0

  pub source_shown : (at : ℕ) (table : Arc Ticking Global) → at ≡ place → table ≡ get_or own at table → arc_value {X = Ticking} table ≡ shown run step n
  source_shown at table at_place there =
      ap (λ (x : Arc Ticking Global). arc_value {X = Ticking} x) (there ∙ ap (λ k. get_or own k table) at_place)
      ∙ sym (get_or-map (λ (x : Arc Ticking Global). arc_value {X = Ticking} x) own place table (ticking no_tick) place_there)
      ∙ ap (λ all. get_or all place (ticking no_tick)) same
      ∙ get_or-map ticking (source_ticks run step) place no_tick (ticking no_tick) place_within
      ∙ ap ticking (sym (tick_of_source run e.lawful step n within is))

-- how often a node is worked: its operator tells
turn : (b : Bool) → ◌≡◌ {A = ℕ} (cond (not b) 1 0) (cond b 0 1)
turn true = refl
turn false = refl

past : (node : Node) → node ≡ no_node → ◌≡◌ {A = ℕ} 0 (cond (is_source node) 0 1)
past node e = subst (λ (node : Node). ◌≡◌ {A = ℕ} 0 (cond (is_source node) 0 1)) (sym e) refl

neither : (b : Bool) → ◌≡◌ {A = ℕ} (cond b 0 0) 0
neither true = refl
neither false = refl

-- each node with an operator was worked once, where each node stands once in the list
pub each_once : (run : Run) (order ran : List ℕ) → ran ≡ filter (is_operator run) order → HasEachOnce (length run.plan.nodes) order → RanOnce run.plan ran
each_once run order ran same each m =
    ap (count_by (λ k. k == m)) same
    ∙ count_filter (is_operator run) m order
    ∙ elim (cases_lt m (length run.plan.nodes)) [
      | inl less ↦
          let there = each.each m less in
          ap (λ k. cond (is_operator run m) k 0) (count_only m order there.0 there.1 (λ a b at_a at_b. each.once a b m at_a at_b)) ∙ turn (is_source (node_at run m))
      | inr more ↦
          ap (λ k. cond (is_operator run m) k 0) (count_none m order (λ i at_i. let low = each.below i m at_i in omega (arith, low, more)))
          ∙ (neither (is_operator run m) ∙ past (node_at run m) (get_or_past run.plan.nodes m no_node (omega (arith, more))))
    ]

-- and none before one of its inputs, where each stands before those that it hands on to, as in order of their tickets
pub tickets_in_order : (run : Run) (order ran : List ℕ) → ran ≡ filter (is_operator run) order → ((e i j : ℕ) (x : Edge) → get_elem? (edges_of run.plan) e ≡ some x → get_elem? order i ≡ some x.from → get_elem? order j ≡ some x.to → i < j) → RanInOrder run.plan ran
tickets_in_order run order ran same before =
    subst (RanInOrder run.plan) (sym same)
    (AllPairs-filter (λ first later. (e : ℕ) (x : Edge) → get_elem? (edges_of run.plan) e ≡ some x → x.from ≡ later → x.to ≡ first → ⊥) (is_operator run) order (λ i j d less within e x there from to.
    let first : get_elem? order j ≡ some x.from = item_there order j d within ∙ ap some (sym from) in
    let later : get_elem? order i ≡ some x.to = item_there order i d (omega arith) ∙ ap some (sym to) in
    let up = before e j i x there first later in
    omega (arith, less, up)))

-- so it is with all nodes in order of their numbers
range_at : (n i k : ℕ) → get_elem? (range_with_len 0 n) i ≡ some k → (i ≡ k) × (k < n)
range_at n i k at_i =
    let long = length-range_with_len 0 n in
    let within = below_of (range_with_len 0 n) i k at_i in
    let own = get_or-range_with_len 0 n i 0 (omega (arith, long, within)) in
    let here : k ≡ get_or (range_with_len 0 n) i 0 = some-injective k (get_or (range_with_len 0 n) i 0) (sym at_i ∙ item_there (range_with_len 0 n) i 0 within) in
    (omega (arith, own, here), omega (arith, own, here, long, within))

range_each : (n : ℕ) → HasEachOnce n (range_with_len 0 n)
range_each n = record {
  long = length-range_with_len 0 n;
  each = λ k less. (k, item_there (range_with_len 0 n) k 0 (let long = length-range_with_len 0 n in omega (arith, long, less)) ∙ ap some (let own = get_or-range_with_len 0 n k 0 less in let here : get_or (range_with_len 0 n) k 0 ≡ k = omega (arith, own) in here));
  below = λ i k at_i. (range_at n i k at_i).1;
  once = λ i j k at_i at_j. (range_at n i k at_i).0 ∙ sym (range_at n j k at_j).0;
}

pub ran_once : (run : Run) (ran : List ℕ) → ran ≡ operators run (length run.plan.nodes) → RanOnce run.plan ran
ran_once run ran same = each_once run (range_with_len 0 (length run.plan.nodes)) ran same (range_each (length run.plan.nodes))

pub numbers_in_order : (run : Run) → IsLawfulRun run → (ran : List ℕ) → ran ≡ operators run (length run.plan.nodes) → RanInOrder run.plan ran
numbers_in_order run lawful ran same =
    tickets_in_order run (range_with_len 0 (length run.plan.nodes)) ran same (λ e i j x there at_from at_to.
    let first = (range_at (length run.plan.nodes) i x.from at_from).0 in
    let later = (range_at (length run.plan.nodes) j x.to at_to).0 in
    let up = (edge_ends run lawful e x there).0 in
    omega (arith, first, later, up))

-- the least fault, from one node on
fault_passed : (k : ℕ) (o : Outcome) (others : List Outcome) → fault_in o ≡ None → node_fault k (o ∷ others) ≡ node_fault (k + 1) others
fault_passed k (Table table) others h = refl
fault_passed k (Fault fault) others h = absurd (cc)
fault_passed k NoInput others h = refl

fault_here : (k : ℕ) (o : Outcome) (others : List Outcome) (kind : NodeFault) → fault_in o ≡ Some kind → node_fault k (o ∷ others) ≡ Some (ByNode k kind)
fault_here k (Table table) others kind h = absurd (cc)
fault_here k (Fault fault) others kind h = let same : fault ≡ kind = cc in ap (λ fault. Some (ByNode k fault)) same
fault_here k NoInput others kind h = absurd (cc)

-- the operators of the first so many nodes that have tables have taken their steps
abbrev pub SteppedBelow : Run → ℕ → ℕ → List (List ℕ) → Type 0
SteppedBelow run step count reads = (node : ℕ) → node < count → is_operator run node ≡ true → is_defined run step node ≡ true → HasStepped run (step + 1) node (reads_at reads node)

module _ (run : Run) (step k : ℕ) (works : List Kept) (work : Kept) (own : map named works ≡ tags run step (length run.plan.nodes)) (within : k < length works) (there : work ≡ get_or works k work) where
  node_within : k < length (state run step)
  node_within =
      let b = count_works run step (length run.plan.nodes) works own in
      let c = length_outcomes run.plan.nodes no_node (sources run step) in
      omega arith

  here : named work ≡ tag run step k
  here = is_named run step (length run.plan.nodes) k works work own within there

  dropped : drop k (state run step) ≡ outcome_at (state run step) k ∷ drop (k + 1) (state run step)
  dropped = let next : suc k ≡ k + 1 = omega arith in drop-cons (state run step) k NoInput node_within ∙ ap (λ m. outcome_at (state run step) k ∷ drop m (state run step)) next

  outcome_here : (found : Option NodeFault) → found ≡ fault_in (outcome_at (state work.run work.step) work.node) → fault_in (outcome_at (state run step) k) ≡ found
  outcome_here found h = sym (h ∙ ap (λ (t : Tag). fault_in (outcome_at (state t.run t.step) t.node)) here)

  pub no_fault_here : fault_in (outcome_at (state work.run work.step) work.node) ≡ None → node_fault k (drop k (state run step)) ≡ node_fault (k + 1) (drop (k + 1) (state run step))
  no_fault_here h = ap (node_fault k) dropped ∙ fault_passed k (outcome_at (state run step) k) (drop (k + 1) (state run step)) (outcome_here None (sym h))

  pub found_here : (kind : NodeFault) → fault_in (outcome_at (state work.run work.step) work.node) ≡ Some kind → node_fault k (drop k (state run step)) ≡ Some (ByNode k kind)
  found_here kind h = ap (node_fault k) dropped ∙ fault_here k (outcome_at (state run step) k) (drop (k + 1) (state run step)) kind (outcome_here (Some kind) (sym h))

  -- and the operator here has taken its steps
  stepped_here : (is_operator work.run work.node ≡ true → is_defined work.run work.step work.node ≡ true → HasStepped work.run (work.step + 1) work.node work.reads)
      → is_operator run k ≡ true → is_defined run step k ≡ true → HasStepped run (step + 1) k (reads_at (all_reads works) k)
  stepped_here h is defined =
      subst (HasStepped run (step + 1) k) (ap (λ (w : Kept). w.reads) there ∙ sym (get_or-map (λ (w : Kept). w.reads) works k work [] within))
      (subst (λ (t : Tag). HasStepped t.run (t.step + 1) t.node work.reads) here
      (h (subst (λ (t : Tag). is_operator t.run t.node ≡ true) (sym here) is) (subst (λ (t : Tag). is_defined t.run t.step t.node ≡ true) (sym here) defined)))

  pub stepped_more : (is_operator work.run work.node ≡ true → is_defined work.run work.step work.node ≡ true → HasStepped work.run (work.step + 1) work.node work.reads)
      → SteppedBelow run step k (all_reads works) → SteppedBelow run step (k + 1) (all_reads works)
  stepped_more h before node below is defined = elim (cases_lt node k) [
    | inl less ↦ before node less is defined
    | inr more ↦
        let same : k ≡ node = omega (arith, below, more) in
        subst (λ n. HasStepped run (step + 1) n (reads_at (all_reads works) n)) same
        (stepped_here h (subst (λ n. is_operator run n ≡ true) (sym same) is) (subst (λ n. is_defined run step n ≡ true) (sym same) defined))
  ]

pub no_fault_left : (run : Run) (step k : ℕ) → length run.plan.nodes ≤ k → node_fault k (drop k (state run step)) ≡ None
no_fault_left run step k past = ap (node_fault k) (drop_all k (state run step) (let c = length_outcomes run.plan.nodes no_node (sources run step) in omega arith))

-- a step that is entered and that no node spoils is reached
pub reached_here : (run : Run) (step : ℕ) → IsEntered run step → node_fault 0 (state run step) ≡ None → IsReached run step
reached_here run step e fine = record {
  batches = e.batches;
  nodes = λ s below. elim (cases_lt s step) [
    | inl less ↦ e.nodes s less
    | inr more ↦ let same : s ≡ step = omega (arith, below, more) in ap (λ s. node_fault 0 (state run s)) same ∙ fine
  ];
}

-- what was found of the nodes
abbrev pub cause_of : ℕ × NodeFault → Cause
cause_of found = ByNode found.0 found.1

pub found_fault : (found : Option (ℕ × NodeFault)) (least : Option Cause) → option_map cause_of found ≡ least → (node : ℕ) (kind : NodeFault) → found ≡ Some (node, kind) → least ≡ Some (ByNode node kind)
found_fault found least e node kind h = sym e ∙ ap (option_map cause_of) h

pub found_none : (found : Option (ℕ × NodeFault)) (least : Option Cause) → option_map cause_of found ≡ least → found ≡ None → least ≡ None
found_none found least e h = sym e ∙ ap (option_map cause_of) h
