-- A run that is put together keeps the rules of runs.
use Rattle.std.proofs.Common.{◌≡◌, ℕ, zero, suc, ◌^◌, ◌<◌, Bool, true, false, cond, List, [], ◌∷◌, ◌++◌, map, length, Ok, refl, sym, ap, ◌∙◌, subst, inl, inr, arith}
use Rattle.std.{specs.Prelude.{flat_map, slice_index_or}, proofs.lemmas.List.length-map, specs.List.AllByRecursion}
use Rattle.key_lists.{proofs.Every.every_weaker, proofs.Parts.{every_front, every_back}}
use Rattle.tick_model.{specs.declared.feed.Block.Block, specs.declared.feed.Batch.Batch, specs.declared.feed.Run.Run, specs.declared.plan.ColumnSpec.ColumnSpec, specs.declared.plan.Node.Node, specs.declared.plan.Op.Op, specs.declared.plan.Op.TheVariants.{Keep, View}, specs.declared.plan.Plan.Plan, specs.declared.table.PlainTable.PlainTable, specs.Evaluation.is_source, specs.LawfulRuns.{IsOpening, AreOpenings, IsSourceRow, IsLawfulBlock, IsLawfulRun, sources_of, is_source_number, has_op_ranks}, specs.Numbers.HasPlanNumbers, specs.Plans.{is_lawful, columns_at}}
use Rattle.script_reader.{specs.declared.script.Script.Script, specs.Binding.{ranks_of, bound_op, bound_node, bound}, specs.Plain.{plain_op, plain_node, plain_plan}}
use Rattle.feed_reader.{specs.declared.raw.RawFeed.RawFeed, specs.declared.raw.RawTable.RawTable, specs.Assembled.{plain_run, run_of, IsTableOf, AreTablesOf}, specs.Coding.{table_texts, batch_texts, texts_of, coded_table, coded_rows, coded_batch, coded_feed}, specs.Feeds.feed_of, specs.Runs.{IsAmong, opening_of}, proofs.BoundLemmas.{nodes_ranks_bound, nodes_numbers_bound}, proofs.PlainLemmas.{is_lawful_plain, plan_numbers_plain, plan_ranks_plain}, proofs.FeedLaws.{feed_steps, feed_blocks}, proofs.OrderLemmas.{texts_in_order, texts_noted}, proofs.ReadLemmas.{table_is_opening, no_rows_are_opening}}
use Rattle.script_laws.specs.Literals.{NamesLiterals}

-- nodes that have the same columns, and are sources alike
abbrev pub SameNodes : List Node → List Node → Type 0
SameNodes [] [] = Unit {0}
SameNodes [] (y ∷ ys) = ⊥
SameNodes (x ∷ xs) [] = ⊥
SameNodes (x ∷ xs) (y ∷ ys) = (x.columns ≡ y.columns) × (is_source x ≡ is_source y) × SameNodes xs ys

source_plain : (name : List ℕ) (columns : List ColumnSpec) (op : Op) → is_source (record { name = name; columns = columns; op = plain_op op }) ≡ is_source (record { name = name; columns = columns; op = op })
source_plain name columns (Keep input test) = refl
source_plain name columns (View input exprs) = refl
source_plain name columns op = refl

source_bound : (ranks : List ℕ) (name : List ℕ) (columns : List ColumnSpec) (op : Op) → is_source (record { name = name; columns = columns; op = bound_op ranks op }) ≡ is_source (record { name = name; columns = columns; op = op })
source_bound ranks name columns (Keep input test) = refl
source_bound ranks name columns (View input exprs) = refl
source_bound ranks name columns op = refl

-- what lies somewhere is bound to what lies nowhere
same_node : (ranks : List ℕ) (x y : Node) → plain_node x ≡ bound_node ranks y → (x.columns ≡ y.columns) × (is_source x ≡ is_source y)
same_node ranks x y is =
    (ap (λ (node : Node). node.columns) is, sym (source_plain x.name x.columns x.op) ∙ ap is_source is ∙ source_bound ranks y.name y.columns y.op)

abbrev first_or : Node → List Node → Node
first_or node [] = node
first_or node (x ∷ xs) = x

abbrev rest_of : List Node → List Node
rest_of [] = []
rest_of (x ∷ xs) = xs

pub same_bound : (ranks : List ℕ) (xs ys : List Node) → map plain_node xs ≡ map (bound_node ranks) ys → SameNodes xs ys
same_bound ranks [] [] is = tt
same_bound ranks [] (y ∷ ys) is = cc is
same_bound ranks (x ∷ xs) [] is = cc is
same_bound ranks (x ∷ xs) (y ∷ ys) is =
    let node = same_node ranks x y (ap (first_or (plain_node x)) is) in
    (node.0, node.1, same_bound ranks xs ys (ap rest_of is))

columns_same : (xs ys : List Node) → SameNodes xs ys → map (λ (n : Node). n.columns) xs ≡ map (λ n. n.columns) ys
columns_same [] [] same = refl
columns_same [] (y ∷ ys) same = absurd same
columns_same (x ∷ xs) [] same = absurd same
columns_same (x ∷ xs) (y ∷ ys) same =
    ap (λ columns. columns ∷ map (λ (n : Node). n.columns) xs) same.0 ∙ ap (λ others. y.columns ∷ others) (columns_same xs ys same.2)

number_same : (xs ys : List Node) (number : ℕ) → SameNodes xs ys → is_source_number xs number ≡ is_source_number ys number
number_same [] [] number same = refl
number_same [] (y ∷ ys) number same = absurd same
number_same (x ∷ xs) [] number same = absurd same
number_same (x ∷ xs) (y ∷ ys) zero same = same.1
number_same (x ∷ xs) (y ∷ ys) (suc number) same = number_same xs ys number same.2

same_next : (b c : Bool) (x y : Node) (xs ys : List Node) → b ≡ c → x.columns ≡ y.columns → is_source x ≡ is_source y → SameNodes xs ys → SameNodes (cond b (x ∷ xs) xs) (cond c (y ∷ ys) ys)
same_next true true x y xs ys is columns source same = (columns, source, same)
same_next true false x y xs ys is columns source same = cc is
same_next false true x y xs ys is columns source same = cc is
same_next false false x y xs ys is columns source same = same

sources_same : (xs ys : List Node) → SameNodes xs ys → SameNodes (sources_of xs) (sources_of ys)
sources_same [] [] same = tt
sources_same [] (y ∷ ys) same = absurd same
sources_same (x ∷ xs) [] same = absurd same
sources_same (x ∷ xs) (y ∷ ys) same = same_next (is_source x) (is_source y) x y (sources_of xs) (sources_of ys) same.1 same.0 same.1 (sources_same xs ys same.2)

openings_along : (xs ys : List Node) (texts : ℕ) (tables : List PlainTable) → SameNodes xs ys → AreOpenings ys texts tables → AreOpenings xs texts tables
openings_along [] [] texts tables same are = are
openings_along [] (y ∷ ys) texts tables same are = absurd same
openings_along (x ∷ xs) [] texts tables same are = absurd same
openings_along (x ∷ xs) (y ∷ ys) texts [] same are = absurd are
openings_along (x ∷ xs) (y ∷ ys) texts (table ∷ tables) same are = (subst (λ columns. IsOpening columns texts table) (sym same.0) are.0, openings_along xs ys texts tables same.2 are.1)

block_along : (plan other : Plan) (texts : ℕ) (block : Block) → SameNodes plan.nodes other.nodes → IsLawfulBlock other texts block → IsLawfulBlock plan texts block
block_along plan other texts block same is =
    let columns : columns_at other.nodes block.table ≡ columns_at plan.nodes block.table = ap (λ all. slice_index_or all block.table []) (sym (columns_same plan.nodes other.nodes same)) in
    record {
      source = number_same plan.nodes other.nodes block.table same ∙ is.source;
      removed = is.removed;
      shifts = is.shifts;
      ranges = is.ranges;
      added = subst (λ those. AllByRecursion (IsSourceRow those texts) block.added) columns is.added;
      modified = subst (λ those. AllByRecursion (IsSourceRow those texts) block.modified) columns is.modified;
      added_rise = is.added_rise;
      modified_rise = is.modified_rise;
      records = is.records;
    }

-- the tables that the sources open with
opening_is : (texts : List (List ℕ)) (columns : List ColumnSpec) (table : RawTable) → length texts < 2 ^ 63 → IsTableOf columns table → AllByRecursion (IsAmong texts) (table_texts table) → IsOpening columns (length texts) (coded_table texts (length columns) table)
opening_is texts columns table small (inl none) among =
    subst (λ rows. IsOpening columns (length texts) (record { width = length columns; rows = coded_rows texts rows })) (sym none) (no_rows_are_opening columns texts)
opening_is texts columns table small (inr (bytes, read)) among = table_is_opening columns bytes table texts read small among

openings_are : (texts : List (List ℕ)) (sources : List Node) (tables : List RawTable) → length texts < 2 ^ 63 → AreTablesOf sources tables → AllByRecursion (IsAmong texts) (flat_map table_texts tables) → AreOpenings sources (length texts) (opening_of texts sources tables)
openings_are texts [] [] small are among = tt
openings_are texts [] (table ∷ tables) small are among = absurd are
openings_are texts (source ∷ sources) [] small are among = absurd are
openings_are texts (source ∷ sources) (table ∷ tables) small are among = (
  opening_is texts source.columns table small are.0 (every_front (IsAmong texts) (table_texts table) (flat_map table_texts tables) among),
  openings_are texts sources tables small are.1 (every_back (IsAmong texts) (table_texts table) (flat_map table_texts tables) among),
)

among_literals : (script : Script) (tables : List RawTable) (feed : RawFeed) → AllByRecursion (IsAmong (texts_of script.literals tables feed)) script.literals
among_literals script tables feed =
    let texts = texts_of script.literals tables feed in
    every_front (IsAmong texts) script.literals (flat_map table_texts tables)
    (every_front (IsAmong texts) (script.literals ++ flat_map table_texts tables) (flat_map batch_texts feed.batches) (texts_noted texts script.literals script.literals tables tables feed refl refl refl))

module _ (script : Script) (tables : List RawTable) (bytes : List ℕ) (feed : RawFeed) (plan : Plan) where
  pub with_plan : plain_plan plan ≡ bound script (texts_of script.literals tables feed) → AreTablesOf (sources_of script.plan.nodes) tables → feed_of script.plan bytes ≡ Ok feed → length (texts_of script.literals tables feed) < 2 ^ 63
      → is_lawful plan ≡ true → HasPlanNumbers plan → AllByRecursion (λ node. has_op_ranks (length (texts_of script.literals tables feed)) node.op ≡ true) plan.nodes
      → IsLawfulRun (record (run_of script tables feed) { plan = plan })
  with_plan is are read small lawful numbers ranks =
      let texts = texts_of script.literals tables feed in
      let noted = texts_noted texts script.literals script.literals tables tables feed refl refl refl in
      let of_tables = every_back (IsAmong texts) script.literals (flat_map table_texts tables) (every_front (IsAmong texts) (script.literals ++ flat_map table_texts tables) (flat_map batch_texts feed.batches) noted) in
      let of_feed = every_back (IsAmong texts) (script.literals ++ flat_map table_texts tables) (flat_map batch_texts feed.batches) noted in
      let same = same_bound (ranks_of texts script.literals) plan.nodes script.plan.nodes (ap (λ (p : Plan). p.nodes) is) in
      record {
        plan = lawful;
        numbers = numbers;
        ranks = ranks;
        opening = openings_along (sources_of plan.nodes) (sources_of script.plan.nodes) (length texts) (opening_of texts (sources_of script.plan.nodes) tables) (sources_same plan.nodes script.plan.nodes same)
            (openings_are texts (sources_of script.plan.nodes) tables small are of_tables);
        steps = omega (arith, feed_steps script.plan bytes feed read, length-map feed.batches (coded_batch texts));
        batches = every_weaker (λ (batch : Batch). AllByRecursion (IsLawfulBlock script.plan (length texts)) batch.blocks) (λ batch. AllByRecursion (IsLawfulBlock plan (length texts)) batch.blocks) (coded_feed texts feed)
            (λ batch all. every_weaker (IsLawfulBlock script.plan (length texts)) (IsLawfulBlock plan (length texts)) batch.blocks (λ block. block_along plan script.plan (length texts) block same) all)
            (feed_blocks script.plan bytes feed texts read small of_feed);
        texts = texts_in_order texts script.literals tables feed refl;
      }

pub run_is_lawful : (script : Script) (tables : List RawTable) (bytes : List ℕ) (feed : RawFeed) (run : Run) → plain_run run ≡ run_of script tables feed → AreTablesOf (sources_of script.plan.nodes) tables → feed_of script.plan bytes ≡ Ok feed → length run.texts < 2 ^ 63
    → is_lawful (bound script run.texts) ≡ true → HasPlanNumbers script.plan → NamesLiterals script → IsLawfulRun run
run_is_lawful script tables bytes feed run is are read small lawful numbers names =
    let texts = texts_of script.literals tables feed in
    let those : run.texts ≡ texts = ap (λ (r : Run). r.texts) is in
    let plan : plain_plan run.plan ≡ bound script texts = ap (λ (r : Run). r.plan) is in
    let few : length texts < 2 ^ 63 = subst (λ all. length all < 2 ^ 63) those small in
    let among = among_literals script tables feed in
    let bounds : is_lawful (bound script texts) ≡ true = subst (λ all. is_lawful (bound script all) ≡ true) those lawful in
    let same : run ≡ record (run_of script tables feed) { plan = run.plan } = ap (λ (r : Run). record r { plan = run.plan }) is in
    subst IsLawfulRun (sym same)
    (with_plan script tables bytes feed run.plan plan are read few
    (sym (is_lawful_plain run.plan) ∙ ap is_lawful plan ∙ bounds)
    (plan_numbers_plain run.plan (subst HasPlanNumbers (sym plan) (nodes_numbers_bound texts script.literals few among script.plan.nodes names numbers)))
    (plan_ranks_plain (length texts) run.plan (subst (λ (p : Plan). AllByRecursion (λ node. has_op_ranks (length texts) node.op ≡ true) p.nodes) (sym plan) (nodes_ranks_bound texts script.literals few among script.plan.nodes names))))
