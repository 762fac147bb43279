-- A run does the same wherever its formulas lie.
use Rattle.std.proofs.Common.{◌≡◌, ℕ, zero, suc, ◌+◌, Bool, true, false, List, [], ◌∷◌, ◌++◌, map, take, filter, length, cond, Option, None, ℤ, refl, ap, ◌∙◌}
use mathlib.Core.Path.{fun_ext}
use Rattle.std.{proofs.lemmas.List.length-map, specs.Prelude.{◌+ℤ◌, ◌-ℤ◌, ◌*ℤ◌, neg_ℤ, ◌&&◌, ◌||◌, not, fold, flat_map, slice_index_or, slice_set, option_map, find, is_some}, specs.List.{list_all, range_with_len}, specs.Option.option_or}
use Rattle.tick_model.{specs.declared.feed.Block.Block, specs.declared.feed.Run.Run, specs.declared.plan.ColumnSpec.ColumnSpec, specs.declared.plan.Expr.{Expr, Cell, Number, Null, Literal, Rank, Neg', Add', Sub', Mul'}, specs.declared.plan.Node.Node, specs.declared.plan.Op.Op, specs.declared.plan.Op.TheVariants.{Keep, View}, specs.declared.plan.Plan.Plan, specs.declared.plan.Pred.{Pred, Compare, And', Or', Not'}, specs.declared.table.PlainRow.PlainRow, specs.declared.table.PlainTable.PlainTable, specs.declared.update.FeedRule.FeedRule, specs.Changes.change_of, specs.Evaluation.{Outcome, NoInput, is_source, source_number, has_table, outcome_at, table_at, or_fault, outcome_of, eval_node, eval}, specs.Tables.no_table, specs.Formulas.{value, truth, compares, lifted, lifted2}, specs.Sources.{blocks_of, unchanged, carry_on, tick_at, after_block, after_blocks, block_fault, record_of, blocks_fault, source_ticks, sources, batch_fault}, specs.Spoiled.{Cause, ByBatch, node_fault, publication_fault, spoiled_by, first_spoiled, step_before, good}, specs.States.{state, tick_of, tick_node, ticks_between, empty_at, ticks, tick}, specs.Texts.{change_records, name_at, columns_at, node_records, step_records, records_text, updates_text}, specs.Updates.Tick, specs.View.{view_row, view_table}, specs.Where.where_table}
use Rattle.script_reader.{specs.Plain.{plain, plain_test, plain_op, plain_node, plain_plan}, proofs.Plainly.{names_plain, tables_plain}}
use Rattle.feed_reader.{specs.Assembled.plain_run, proofs.PlainFeeds.source_plain}

-- formulas and tests
abbrev Values : Type 0
Values = List ℤ → ℤ

abbrev Tests : Type 0
Tests = List ℤ → Bool

value_plain : (expr : Expr) → value (plain expr) ≡ value expr
value_plain (Cell column) = refl
value_plain (Number n) = refl
value_plain Null = refl
value_plain (Literal text) = refl
value_plain (Rank rank) = refl
value_plain (Neg' p a) = let onto : Values → Values = λ of cells. lifted neg_ℤ (of cells) in ap onto (value_plain a)
value_plain (Add' p a q b) =
    let first : Values → Values = λ of cells. lifted2 ◌+ℤ◌ (of cells) (value (plain b) cells) in
    let second : Values → Values = λ of cells. lifted2 ◌+ℤ◌ (value a cells) (of cells) in
    ap first (value_plain a) ∙ ap second (value_plain b)
value_plain (Sub' p a q b) =
    let first : Values → Values = λ of cells. lifted2 ◌-ℤ◌ (of cells) (value (plain b) cells) in
    let second : Values → Values = λ of cells. lifted2 ◌-ℤ◌ (value a cells) (of cells) in
    ap first (value_plain a) ∙ ap second (value_plain b)
value_plain (Mul' p a q b) =
    let first : Values → Values = λ of cells. lifted2 ◌*ℤ◌ (of cells) (value (plain b) cells) in
    let second : Values → Values = λ of cells. lifted2 ◌*ℤ◌ (value a cells) (of cells) in
    ap first (value_plain a) ∙ ap second (value_plain b)

truth_plain : (test : Pred) → truth (plain_test test) ≡ truth test
truth_plain (Compare how a b) =
    let first : Values → Tests = λ of cells. compares how (of cells) (value (plain b) cells) in
    let second : Values → Tests = λ of cells. compares how (value a cells) (of cells) in
    ap first (value_plain a) ∙ ap second (value_plain b)
truth_plain (And' p a q b) =
    let first : Tests → Tests = λ of cells. of cells && truth (plain_test b) cells in
    let second : Tests → Tests = λ of cells. truth a cells && of cells in
    ap first (truth_plain a) ∙ ap second (truth_plain b)
truth_plain (Or' p a q b) =
    let first : Tests → Tests = λ of cells. of cells || truth (plain_test b) cells in
    let second : Tests → Tests = λ of cells. truth a cells || of cells in
    ap first (truth_plain a) ∙ ap second (truth_plain b)
truth_plain (Not' p a) = let onto : Tests → Tests = λ of cells. not (of cells) in ap onto (truth_plain a)

-- tables
abbrev Tables : Type 0
Tables = PlainTable → PlainTable

where_plain : (test : Pred) → where_table (plain_test test) ≡ where_table test
where_plain test = let onto : Tests → Tables = λ of input. record input { rows = filter (λ (row : PlainRow). of row.cells) input.rows } in ap onto (truth_plain test)

values_plain : (exprs : List Expr) (cells : List ℤ) → map (λ expr. value expr cells) (map plain exprs) ≡ map (λ expr. value expr cells) exprs
values_plain [] cells = refl
values_plain (expr ∷ exprs) cells = ap (λ (of : Values). of cells ∷ map (λ e. value e cells) (map plain exprs)) (value_plain expr) ∙ ap (λ (rest : List ℤ). value expr cells ∷ rest) (values_plain exprs cells)

count_plain : (exprs : List Expr) → length (map plain exprs) ≡ length exprs
count_plain exprs = length-map exprs plain

view_plain : (exprs : List Expr) → view_table (map plain exprs) ≡ view_table exprs
view_plain exprs =
    let wide : ℕ → Tables = λ count input. record { width = input.width + count; rows = map (view_row (map plain exprs)) input.rows } in
    let onto : (PlainRow → PlainRow) → Tables = λ of input. record { width = input.width + length exprs; rows = map of input.rows } in
    let rows : view_row (map plain exprs) ≡ view_row exprs = fun_ext (λ (row : PlainRow). ap (λ (cells : List ℤ). let own : PlainRow = record row { cells = row.cells ++ cells } in own) (values_plain exprs row.cells)) in
    ap wide (count_plain exprs) ∙ ap onto rows

-- outcomes
outcome_plain : (op : Op) → outcome_of (plain_op op) ≡ outcome_of op
outcome_plain (Keep input test) =
    let onto : Tables → PlainTable → List Outcome → Outcome = λ of own done. elim (list_all (λ n. has_table (outcome_at done n)) (input ∷ [])) [ true ↦ or_fault None (of (table_at done input)) | false ↦ NoInput ] in ap onto (where_plain test)
outcome_plain (View input exprs) =
    let onto : Tables → PlainTable → List Outcome → Outcome = λ of own done. elim (list_all (λ n. has_table (outcome_at done n)) (input ∷ [])) [ true ↦ or_fault None (of (table_at done input)) | false ↦ NoInput ] in ap onto (view_plain exprs)
outcome_plain op = refl

-- where a source stands among the sources, counted on from so many
count_by_plain : (so_far : ℕ) (nodes : List Node) (node : ℕ) → fold (λ a x. a + cond (is_source x) 1 0) so_far (take node (map plain_node nodes)) ≡ fold (λ a x. a + cond (is_source x) 1 0) so_far (take node nodes)
count_by_plain so_far [] zero = refl
count_by_plain so_far [] (suc node) = refl
count_by_plain so_far (first ∷ nodes) zero = refl
count_by_plain so_far (first ∷ nodes) (suc node) =
    ap (λ b. fold (λ a x. a + cond (is_source x) 1 0) (so_far + cond b 1 0) (take node (map plain_node nodes))) (source_plain first) ∙ count_by_plain (so_far + cond (is_source first) 1 0) nodes node

pub source_number_plain : (nodes : List Node) (node : ℕ) → source_number (map plain_node nodes) node ≡ source_number nodes node
source_number_plain = count_by_plain 0

-- evaluation
eval_on : (all : List Node) (tables : List PlainTable) (nodes : List Node) (done : List Outcome) → fold (eval_node (map plain_node all) tables) done (map plain_node nodes) ≡ fold (eval_node all tables) done nodes
eval_on all tables [] done = refl
eval_on all tables (node ∷ nodes) done =
    ap (λ number. fold (eval_node (map plain_node all) tables) (done ++ outcome_of (plain_op node.op) (slice_index_or tables number no_table) done ∷ []) (map plain_node nodes)) (source_number_plain all (length done))
    ∙ ap (λ (of : PlainTable → List Outcome → Outcome). fold (eval_node (map plain_node all) tables) (done ++ of (slice_index_or tables (source_number all (length done)) no_table) done ∷ []) (map plain_node nodes)) (outcome_plain node.op)
    ∙ eval_on all tables nodes (eval_node all tables done node)

eval_plain : (plan : Plan) (tables : List PlainTable) → eval (plain_plan plan) tables ≡ eval plan tables
eval_plain plan tables = eval_on plan.nodes tables plan.nodes []

-- sources
after_block_plain : (plan : Plan) (own : List Tick) (block : Block) → after_block (plain_plan plan) own block ≡ after_block plan own block
after_block_plain plan own block = ap (λ source. slice_set own source (carry_on (tick_at own source) block)) (source_number_plain plan.nodes block.table)

after_blocks_plain : (plan : Plan) (own : List Tick) (blocks : List Block) → after_blocks (plain_plan plan) own blocks ≡ after_blocks plan own blocks
after_blocks_plain plan own [] = refl
after_blocks_plain plan own (block ∷ blocks) = ap (λ next. after_blocks (plain_plan plan) next blocks) (after_block_plain plan own block) ∙ after_blocks_plain plan (after_block plan own block) blocks

blocks_fault_plain : (plan : Plan) (own : List Tick) (blocks : List Block) → blocks_fault (plain_plan plan) own blocks ≡ blocks_fault plan own blocks
blocks_fault_plain plan own [] = refl
blocks_fault_plain plan own (block ∷ blocks) =
    ap (λ source. option_or (option_map (λ rule. (record_of block rule, rule)) (block_fault (tick_at own source).new block)) (blocks_fault (plain_plan plan) (after_block (plain_plan plan) own block) blocks)) (source_number_plain plan.nodes block.table)
    ∙ ap (option_or (option_map (λ rule. (record_of block rule, rule)) (block_fault (tick_at own (source_number plan.nodes block.table)).new block)))
    (ap (λ next. blocks_fault (plain_plan plan) next blocks) (after_block_plain plan own block) ∙ blocks_fault_plain plan (after_block plan own block) blocks)

source_ticks_plain : (run : Run) (step : ℕ) → source_ticks (plain_run run) step ≡ source_ticks run step
source_ticks_plain run zero = refl
source_ticks_plain run (suc step) =
    ap (λ own. after_blocks (plain_plan run.plan) (map (λ (tick : Tick). unchanged tick.new) own) (blocks_of run (suc step))) (source_ticks_plain run step)
    ∙ after_blocks_plain run.plan (map (λ (tick : Tick). unchanged tick.new) (source_ticks run step)) (blocks_of run (suc step))

sources_plain : (run : Run) (step : ℕ) → sources (plain_run run) step ≡ sources run step
sources_plain run step = ap (map (λ (tick : Tick). tick.new)) (source_ticks_plain run step)

batch_fault_plain : (run : Run) (step : ℕ) → batch_fault (plain_run run) step ≡ batch_fault run step
batch_fault_plain run zero = refl
batch_fault_plain run (suc step) =
    ap (λ tables. blocks_fault (plain_plan run.plan) (map unchanged tables) (blocks_of run (suc step))) (sources_plain run step)
    ∙ blocks_fault_plain run.plan (map unchanged (sources run step)) (blocks_of run (suc step))

-- states and ticks
pub state_plain : (run : Run) (step : ℕ) → state (plain_run run) step ≡ state run step
state_plain run step = ap (eval (plain_plan run.plan)) (sources_plain run step) ∙ eval_plain run.plan (sources run step)

tick_of_plain : (op : Op) → tick_of (plain_op op) ≡ tick_of op
tick_of_plain (Keep input test) = refl
tick_of_plain (View input exprs) = refl
tick_of_plain op = refl

ticks_on : (all : List Node) (own : List Tick) (old new : ℕ → PlainTable) (nodes : List Node) (done : List Tick) → fold (tick_node (map plain_node all) own old new) done (map plain_node nodes) ≡ fold (tick_node all own old new) done nodes
ticks_on all own old new [] done = refl
ticks_on all own old new (node ∷ nodes) done =
    let n = length done in
    ap (λ number. fold (tick_node (map plain_node all) own old new) (done ++ tick_of (plain_op node.op) (tick_at own number) done (old n) (new n) ∷ []) (map plain_node nodes)) (source_number_plain all n)
    ∙ ap (λ (of : Tick → List Tick → PlainTable → PlainTable → Tick). fold (tick_node (map plain_node all) own old new) (done ++ of (tick_at own (source_number all n)) done (old n) (new n) ∷ []) (map plain_node nodes)) (tick_of_plain node.op)
    ∙ ticks_on all own old new nodes (tick_node all own old new done node)

empty_plain : (plan : Plan) (nodes : List Node) (node : ℕ) → empty_at (record plan { nodes = map plain_node nodes }) node ≡ empty_at (record plan { nodes = nodes }) node
empty_plain plan [] node = refl
empty_plain plan (first ∷ nodes) zero = refl
empty_plain plan (first ∷ nodes) (suc node) = empty_plain plan nodes node

ticks_plain : (run : Run) (step : ℕ) → ticks (plain_run run) step ≡ ticks run step
ticks_plain run zero =
    let empty : empty_at (plain_plan run.plan) ≡ empty_at run.plan = fun_ext (λ (node : ℕ). empty_plain run.plan run.plan.nodes node) in
    ap (λ old. ticks_between (plain_plan run.plan) (source_ticks run 0) old (table_at (state (plain_run run) 0))) empty
    ∙ ap (λ outcomes. ticks_between (plain_plan run.plan) (source_ticks run 0) (empty_at run.plan) (table_at outcomes)) (state_plain run 0)
    ∙ ticks_on run.plan.nodes (source_ticks run 0) (empty_at run.plan) (table_at (state run 0)) run.plan.nodes []
ticks_plain run (suc step) =
    ap (λ own. ticks_between (plain_plan run.plan) own (table_at (state (plain_run run) step)) (table_at (state (plain_run run) (suc step)))) (source_ticks_plain run (suc step))
    ∙ ap (λ outcomes. ticks_between (plain_plan run.plan) (source_ticks run (suc step)) (table_at outcomes) (table_at (state (plain_run run) (suc step)))) (state_plain run step)
    ∙ ap (λ outcomes. ticks_between (plain_plan run.plan) (source_ticks run (suc step)) (table_at (state run step)) (table_at outcomes)) (state_plain run (suc step))
    ∙ ticks_on run.plan.nodes (source_ticks run (suc step)) (table_at (state run step)) (table_at (state run (suc step))) run.plan.nodes []

pub tick_plain : (run : Run) (step node : ℕ) → tick (plain_run run) step node ≡ tick run step node
tick_plain run step node = ap (λ all. tick_at all node) (ticks_plain run step)

-- spoiled steps
pub spoiled_plain : (run : Run) → spoiled_by (plain_run run) ≡ spoiled_by run
spoiled_plain run = fun_ext (λ (step : ℕ).
    ap (λ broken. option_or (option_map (λ (of : ℕ × FeedRule). ByBatch of.0 of.1) broken) (option_or (node_fault 0 (state (plain_run run) step)) (publication_fault 0 (state (plain_run run) step) run.plan.published))) (batch_fault_plain run step)
    ∙ ap (λ outcomes. option_or (option_map (λ (of : ℕ × FeedRule). ByBatch of.0 of.1) (batch_fault run step)) (option_or (node_fault 0 outcomes) (publication_fault 0 outcomes run.plan.published))) (state_plain run step))

pub first_spoiled_plain : (run : Run) → first_spoiled (plain_run run) ≡ first_spoiled run
first_spoiled_plain run = ap (λ (of : ℕ → Option Cause). find (λ step. is_some (of step)) (range_with_len 0 (length run.batches + 1))) (spoiled_plain run)

pub good_plain : (run : Run) → good (plain_run run) ≡ good run
good_plain run = ap (step_before (length run.batches)) (first_spoiled_plain run)

-- texts
pub name_plain : (run : Run) → name_at (plain_run run) ≡ name_at run
name_plain run = let at : List (List ℕ) → ℕ → List ℕ = λ names node. slice_index_or names node [] in ap at (names_plain run.plan.nodes)

pub columns_plain : (run : Run) → columns_at (plain_run run) ≡ columns_at run
columns_plain run = let at : List (List ColumnSpec) → ℕ → List ColumnSpec = λ tables node. slice_index_or tables node [] in ap at (tables_plain run.plan.nodes)

node_records_plain : (run : Run) (step : ℕ) → node_records (plain_run run) step ≡ node_records run step
node_records_plain run step = fun_ext (λ (node : ℕ).
    ap (λ (of : ℕ → List ℕ). change_records step (of node) (columns_at (plain_run run) node) run.texts (change_of (tick (plain_run run) step node))) (name_plain run)
    ∙ ap (λ (of : ℕ → List ColumnSpec). change_records step (name_at run node) (of node) run.texts (change_of (tick (plain_run run) step node))) (columns_plain run)
    ∙ ap (λ own. change_records step (name_at run node) (columns_at run node) run.texts (change_of own)) (tick_plain run step node))

pub step_records_plain : (run : Run) → step_records (plain_run run) ≡ step_records run
step_records_plain run = fun_ext (λ (step : ℕ). ap (λ of. flat_map of run.plan.printed) (node_records_plain run step))

pub updates_plain : (run : Run) → updates_text (plain_run run) ≡ updates_text run
updates_plain run = fun_ext (λ (last : ℕ). ap (λ of. records_text (flat_map of (range_with_len 0 (last + 1)))) (step_records_plain run))
