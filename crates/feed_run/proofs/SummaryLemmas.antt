-- The records of a summary, one after the other.
use Rattle.std.proofs.Common.{◌≡◌, ◌<◌, ℕ, ◌+◌, List, [], ◌∷◌, ◌++◌, take, length, get_or, refl, sym, ap, ◌∙◌, arith}
use Rattle.std.{proofs.Math.ListN.get_or-map, proofs.lemmas.List.{length-take, take_more}, specs.Fmt.decimal, specs.Prelude.codes}
use Rattle.tick_model.{specs.declared.feed.Run.Run, specs.declared.plan.Node.Node, specs.Evaluation.{Outcome, NoInput, table_of}, specs.States.state, specs.Texts.{done_record, records_text, size_records, summary_text, updates_records}}
use Rattle.replay.specs.Outcomes.{IsDone, row_counts}
use Rattle.feed_run.specs.Summaries.{demo_record, size_record, sizes}

-- one node more
pub sizes_more : (rows : List ℕ) (number : ℕ) (nodes : List Node) (node : Node) (at : ℕ) → at ≡ number + length nodes → sizes rows number (nodes ++ node ∷ []) ≡ sizes rows number nodes ++ size_record node.name (get_or rows at 0) ∷ []
sizes_more rows number [] node at is =
    let same : number ≡ at = omega (arith, is) in
    ap (λ k. size_record node.name (get_or rows k 0) ∷ []) same
sizes_more rows number (first ∷ others) node at is =
    let next : at ≡ number + 1 + length others = omega (arith, is) in
    ap (λ rest. size_record first.name (get_or rows number 0) ∷ rest) (sizes_more rows (number + 1) others node at next)

-- by the rows that the nodes have
sizes_of_run : (run : Run) (step number : ℕ) (nodes : List Node) → sizes (row_counts run step) number nodes ≡ size_records run step number nodes
sizes_of_run run step number [] = refl
sizes_of_run run step number (first ∷ others) =
    ap (λ count. size_record first.name count ∷ sizes (row_counts run step) (number + 1) others) (get_or-map (λ (outcome : Outcome). length (table_of outcome).rows) (state run step) number NoInput)
    ∙ ap (λ rest. (codes "size" ∷ first.name ∷ decimal (length (table_of (get_or (state run step) number NoInput)).rows) ∷ []) ∷ rest) (sizes_of_run run step (number + 1) others)

-- the whole summary
pub summary_is : (run : Run) (step records : ℕ) (rows : List ℕ) → IsDone run step records rows → records_text ((demo_record step records ∷ sizes rows 0 run.plan.nodes) ++ done_record step ∷ []) ≡ summary_text run step
summary_is run step records rows is =
    ap (λ count. records_text ((demo_record step count ∷ sizes rows 0 run.plan.nodes) ++ done_record step ∷ [])) is.records_are
    ∙ ap (λ own. records_text ((demo_record step (length (updates_records run step)) ∷ sizes own 0 run.plan.nodes) ++ done_record step ∷ [])) is.rows_are
    ∙ ap (λ own. records_text ((demo_record step (length (updates_records run step)) ∷ own) ++ done_record step ∷ [])) (sizes_of_run run step 0 run.plan.nodes)

-- the node at hand
pub sizes_next : (rows : List ℕ) (nodes : List Node) (i : ℕ) (node : Node) → i < length nodes → node ≡ get_or nodes i node → sizes rows 0 (take (i + 1) nodes) ≡ sizes rows 0 (take i nodes) ++ size_record node.name (get_or rows i 0) ∷ []
sizes_next rows nodes i node less is =
    let place : i ≡ 0 + length (take i nodes) = omega (arith, length-take i nodes, less) in
    ap (sizes rows 0) (take_more nodes i node less)
    ∙ sizes_more rows 0 (take i nodes) (get_or nodes i node) i place
    ∙ ap (λ (own : Node). sizes rows 0 (take i nodes) ++ size_record own.name (get_or rows i 0) ∷ []) (sym is)

-- the records, put one after the other
pub summary_from : (run : Run) (step records : ℕ) (rows : List ℕ) (first second third : List (List (List ℕ))) (nodes : List Node) (counts : List ℕ) → IsDone run step records rows → first ≡ [] ++ demo_record step records ∷ [] → second ≡ first ++ sizes counts 0 nodes → third ≡ second ++ done_record step ∷ [] → nodes ≡ run.plan.nodes → counts ≡ rows → records_text third ≡ summary_text run step
summary_from run step records rows first second third nodes counts done one two three same_nodes same_rows =
    ap records_text (three ∙ ap (λ before. before ++ done_record step ∷ []) (two ∙ ap (λ before. before ++ sizes counts 0 nodes) one
    ∙ ap (λ (own : List Node). demo_record step records ∷ sizes counts 0 own) same_nodes ∙ ap (λ own. demo_record step records ∷ sizes own 0 run.plan.nodes) same_rows))
    ∙ summary_is run step records rows done
