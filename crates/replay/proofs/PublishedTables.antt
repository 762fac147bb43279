-- The published tables of a lawful run.
use Rattle.std.proofs.Common.{◌≡◌, refl, sym, ap, ◌∙◌, subst, ℕ, zero, suc, ◌+◌, ◌*◌, ◌^◌, ◌<◌, ◌≤◌, mul-le-mul_right, arith, Bool, true, false, cond, length, List, [], ◌∷◌, get_or, Option, Some, None, ltb-false}
use Rattle.std.{specs.Prelude.{FitsSigned, map, max, nat_le, nat_lt, sum_by, ◌==◌}, specs.Int.w64, specs.List.{AllByRecursion, list_all}, proofs.lemmas.Bool.{and_parts, leb-true, ltb-true}, proofs.lemmas.List.{get_or-map, length-map}, proofs.lemmas.List.Sums.sum_by-cons}
use Rattle.key_lists.{proofs.Every.every_weaker, proofs.Parts.every_at}
use Rattle.snapshot_store.{specs.Lines.{count, limit, limit_in, node_in, published_table}, specs.Opening.AreFirst}
use Rattle.tick_laws.{specs.Fitting.FitsColumns, specs.Reached.IsReached, proofs.FittingNodes.node_fits, proofs.LawfulSources.length-fit_columns, proofs.ReachedTables.reached_tables}
use Rattle.tick_model.{specs.declared.feed.Run.Run, specs.declared.plan.Node.Node, specs.declared.plan.Plan.Plan, specs.declared.plan.Published.Published, specs.declared.table.PlainRow.PlainRow, specs.declared.table.PlainTable.PlainTable, specs.Evaluation.{Outcome, table_at}, specs.Tables.no_table, specs.LawfulRuns.IsLawfulRun, specs.Plans.{columns_at as planned_columns, is_lawful, publication_lawful, published_words, table_words}, specs.Spoiled.{ByPublication, Cause, publication_fault}, specs.States.state, specs.Texts.columns_at, specs.Words.words}
use Rattle.update_text.{specs.declared.shown.Shown.Shown, specs.Snapshots.AreWordsOf}
use Rattle.replay.{specs.Kept.largest_words, specs.Standing.IsWithin}

-- what the test of a plan says of the published tables
there : (nodes : List Node) (tables : List Published) → list_all (publication_lawful nodes) tables ≡ true → AllByRecursion (λ table. table.node < length nodes) tables
there nodes [] h = tt
there nodes (table ∷ tables) h =
    let parts = and_parts (publication_lawful nodes table) (list_all (publication_lawful nodes) tables) h in
    let three = and_parts _ (nat_le table.limit 4194304) parts.0 in
    let two = and_parts _ (nat_le 1 table.limit) three.0 in
    let one = and_parts (nat_lt table.node (length nodes)) (table.width == length (planned_columns nodes table.node)) two.0 in
    (ltb-true table.node (length nodes) one.0, there nodes tables parts.1)

module _ (plan : Plan) (h : is_lawful plan ≡ true) where
  last_tests : (list_all (publication_lawful plan.nodes) plan.published ≡ true) × (nat_le (published_words plan.published) 1048576 ≡ true)
  last_tests =
      let last = and_parts _ (nat_le (published_words plan.published) 1048576) h in
      ((and_parts _ (list_all (publication_lawful plan.nodes) plan.published) last.0).1, last.1)

  pub published_there : AllByRecursion (λ table. table.node < length plan.nodes) plan.published
  published_there = there plan.nodes plan.published last_tests.0

  pub words_few : published_words plan.published ≤ 1048576
  words_few = leb-true (published_words plan.published) 1048576 last_tests.1

  largest_below : (tables : List Published) → largest_words tables ≤ sum_by table_words tables
  largest_below [] = omega arith
  largest_below (table ∷ tables) = omega (arith, largest_below tables, sum_by-cons table_words table tables)

  pub largest_few : largest_words plan.published ≤ 1048576
  largest_few = omega (arith, words_few, largest_below plan.published)

-- so many calls of so few words are few words
pub product_small : (a b words : ℕ) → a ≤ 16 → b ≤ 64 → words ≤ 1048576 → a * (b + 1) * words < 2 ^ 64
product_small a b words few_a few_b few_words =
    let one : a * (b + 1) ≤ 16 * (b + 1) = mul-le-mul_right (b + 1) few_a in
    let calls : a * (b + 1) ≤ 1040 = omega (arith, one, few_b) in
    let all : a * (b + 1) * words ≤ 1040 * words = mul-le-mul_right words calls in
    omega (arith, all, few_words)

-- as many tables are published as there are words at most
count_below : (tables : List Published) → length tables ≤ sum_by table_words tables
count_below [] = omega arith
count_below (table ∷ tables) = omega (arith, count_below tables, sum_by-cons table_words table tables)

pub tables_few : (run : Run) → IsLawfulRun run → count run ≤ 1048576
tables_few run lawful = omega (arith, words_few run.plan lawful.plan, count_below run.plan.published)

-- a member that is there, at another default
pub item_is : {X : Type 0} (xs : List X) (i : ℕ) (d : X) → i < length xs → get_or xs i d ≡ get_or xs i (get_or xs i d)
item_is [] i d less = absurd (omega (arith, less))
item_is (x ∷ xs) zero d less = refl
item_is (x ∷ xs) (suc i) d less = item_is xs i d (omega (arith, less))

abbrev pub no_publication : Published
no_publication = record { node = 0; width = 0; limit = 0 }

module _ (run : Run) (lawful : IsLawfulRun run) where
  -- the node of a published table
  pub node_there : (p : ℕ) → p < count run → node_in run.plan.published p < length run.plan.nodes
  node_there p less =
      subst (λ n. n < length run.plan.nodes) (sym (get_or-map (λ (t : Published). t.node) run.plan.published p no_publication 0 less))
      (every_at (λ (t : Published). t.node < length run.plan.nodes) run.plan.published p no_publication less (published_there run.plan lawful.plan))

  -- the words of a node's table
  pub words_told : (step : ℕ) → IsReached run step → (node : ℕ) → node < length run.plan.nodes → (shown : Shown) → shown.columns ≡ columns_at run node → AreWordsOf shown (words (table_at (state run step) node)) (table_at (state run step) node)
  words_told step reached node less shown columns =
      let fits = node_fits run lawful step reached.batches node less ((reached_tables run lawful step reached).each node less) in
      record {
        same = refl;
        whole = every_weaker (λ (row : PlainRow). FitsColumns (columns_at run node) (length run.texts) row.cells) (λ (row : PlainRow). length row.cells ≡ length shown.columns) (table_at (state run step) node).rows
            (λ row f. length-fit_columns (length run.texts) (columns_at run node) row.cells f.kinds ∙ ap length (sym columns)) fits;
        numbers = every_weaker (λ (row : PlainRow). FitsColumns (columns_at run node) (length run.texts) row.cells) (λ (row : PlainRow). AllByRecursion (FitsSigned w64) row.cells) (table_at (state run step) node).rows
            (λ row f. f.numbers) fits;
      }

-- where none is past its limit, each is within it
none_both : {X : Type 0} (b : Bool) (x : X) (rest : Option X) → cond b (Some x) rest ≡ None → (b ≡ false) × (rest ≡ None)
none_both true x rest none = absurd (cc)
none_both false x rest none = (refl, none)

pub each_within : (outcomes : List Outcome) (n : ℕ) (tables : List Published) → publication_fault n outcomes tables ≡ None → (p : ℕ) → p < length tables → length (table_at outcomes (node_in tables p)).rows ≤ limit_in tables p
each_within outcomes n [] none p less = absurd (omega (arith, less))
each_within outcomes n (table ∷ tables) none zero less =
    let rows = length (table_at outcomes table.node).rows in
    ltb-false table.limit rows (none_both (nat_lt table.limit rows) (ByPublication n rows) (publication_fault (n + 1) outcomes tables) none).0
each_within outcomes n (table ∷ tables) none (suc p) less =
    let rows = length (table_at outcomes table.node).rows in
    each_within outcomes (n + 1) tables (none_both (nat_lt table.limit rows) (ByPublication n rows) (publication_fault (n + 1) outcomes tables) none).1 p (omega (arith, less))

-- the tables with which a store begins
pub first_tables : (run : Run) (tables : List PlainTable) → tables ≡ map (λ table. table_at (state run 0) table.node) run.plan.published → IsWithin run 0 → AreFirst run tables
first_tables run tables are within = record {
  as_many = ap length are ∙ length-map run.plan.published (λ (table : Published). table_at (state run 0) table.node);
  each = λ p less.
      ap (λ (all : List PlainTable). get_or all p no_table) are
      ∙ get_or-map (λ (table : Published). table_at (state run 0) table.node) run.plan.published p no_publication no_table less
      ∙ ap (table_at (state run 0)) (sym (get_or-map (λ (table : Published). table.node) run.plan.published p no_publication 0 less));
  few = each_within (state run 0) 0 run.plan.published within;
}
