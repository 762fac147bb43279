-- What is read is the same wherever the formulas of a script lie.
use Rattle.std.proofs.Common.{◌≡◌, ℕ, List, [], ◌∷◌, ◌++◌, map, drop, length, refl, sym, ap, ◌∙◌, subst}
use Rattle.std.specs.Option.{option_to_list}
use Rattle.made_run.proofs.PlainRuns.{sources_plain}
use Rattle.tick_model.{specs.declared.feed.Run.Run, specs.declared.plan.Expr.{Expr, Cell, Number, Null, Literal, Rank, Neg', Add', Sub', Mul'}, specs.declared.plan.Node.Node, specs.declared.plan.Op.Op, specs.declared.plan.Op.TheVariants.{Keep, View}, specs.declared.plan.Pred.{Pred, Compare, And', Or', Not'}, specs.declared.table.PlainTable.PlainTable, specs.LawfulRuns.sources_of}
use Rattle.script_reader.{specs.declared.script.Script.Script, specs.declared.script.SourceFile.SourceFile, specs.Binding.{ranks_of, bound_expr, bound_test, bound_op, bound_node, bound}, specs.Plain.{neg, add, sub, mul, both, either, negated, plain, plain_test, plain_op, plain_node, plain_script}}
use Rattle.feed_reader.{specs.declared.raw.RawFeed.RawFeed, specs.declared.raw.RawTable.RawTable, specs.Assembled.{AreTablesOf, run_of}, specs.Coding.{texts_of, coded_feed, coded_table}, specs.Runs.opening_of}
use Rattle.feed_run.{specs.Found.{Found, after, names_after}, specs.Readings.{Content, first_file, opening_by, with_table, tables_found, tables_read}}

-- the tables that sources open with
module _ (content : Content) where
  found_plain : (sources : List Node) (files : List SourceFile) → tables_found content (map plain_node sources) files ≡ tables_found content sources files
  found_plain [] files = refl
  found_plain (source ∷ sources) files =
      let next : Found (List RawTable) → Found (List RawTable) = λ later. after (opening_by content source (first_file files)) (λ table. after later (with_table table)) in
      ap next (found_plain sources (drop 1 files))

  read_plain : (sources : List Node) (files : List SourceFile) → tables_read content (map plain_node sources) files ≡ tables_read content sources files
  read_plain [] files = refl
  read_plain (source ∷ sources) files =
      ap (λ later. option_to_list (first_file files) ++ names_after (opening_by content source (first_file files)) (λ table. later)) (read_plain sources (drop 1 files))

  pub tables_found_plain : (nodes : List Node) (files : List SourceFile) → tables_found content (sources_of (map plain_node nodes)) files ≡ tables_found content (sources_of nodes) files
  tables_found_plain nodes files = ap (λ sources. tables_found content sources files) (sources_plain nodes) ∙ found_plain (sources_of nodes) files

  pub tables_read_plain : (nodes : List Node) (files : List SourceFile) → tables_read content (sources_of (map plain_node nodes)) files ≡ tables_read content (sources_of nodes) files
  tables_read_plain nodes files = ap (λ sources. tables_read content sources files) (sources_plain nodes) ∙ read_plain (sources_of nodes) files

are_plain : (sources : List Node) (tables : List RawTable) → AreTablesOf sources tables → AreTablesOf (map plain_node sources) tables
are_plain [] [] are = are
are_plain [] (table ∷ tables) are = are
are_plain (source ∷ sources) [] are = are
are_plain (source ∷ sources) (table ∷ tables) are = (are.0, are_plain sources tables are.1)

pub tables_are_plain : (nodes : List Node) (tables : List RawTable) → AreTablesOf (sources_of nodes) tables → AreTablesOf (sources_of (map plain_node nodes)) tables
tables_are_plain nodes tables are = subst (λ sources. AreTablesOf sources tables) (sym (sources_plain nodes)) (are_plain (sources_of nodes) tables are)

-- the run
bound_plain : (ranks : List ℕ) (expr : Expr) → bound_expr ranks (plain expr) ≡ bound_expr ranks expr
bound_plain ranks (Cell column) = refl
bound_plain ranks (Number n) = refl
bound_plain ranks Null = refl
bound_plain ranks (Literal text) = refl
bound_plain ranks (Rank rank) = refl
bound_plain ranks (Neg' p a) = ap neg (bound_plain ranks a)
bound_plain ranks (Add' p a q b) = ap (λ x. add x (bound_expr ranks (plain b))) (bound_plain ranks a) ∙ ap (add (bound_expr ranks a)) (bound_plain ranks b)
bound_plain ranks (Sub' p a q b) = ap (λ x. sub x (bound_expr ranks (plain b))) (bound_plain ranks a) ∙ ap (sub (bound_expr ranks a)) (bound_plain ranks b)
bound_plain ranks (Mul' p a q b) = ap (λ x. mul x (bound_expr ranks (plain b))) (bound_plain ranks a) ∙ ap (mul (bound_expr ranks a)) (bound_plain ranks b)

bound_test_plain : (ranks : List ℕ) (test : Pred) → bound_test ranks (plain_test test) ≡ bound_test ranks test
bound_test_plain ranks (Compare how a b) = ap (λ x. Compare how x (bound_expr ranks (plain b))) (bound_plain ranks a) ∙ ap (Compare how (bound_expr ranks a)) (bound_plain ranks b)
bound_test_plain ranks (And' p a q b) = ap (λ x. both x (bound_test ranks (plain_test b))) (bound_test_plain ranks a) ∙ ap (both (bound_test ranks a)) (bound_test_plain ranks b)
bound_test_plain ranks (Or' p a q b) = ap (λ x. either x (bound_test ranks (plain_test b))) (bound_test_plain ranks a) ∙ ap (either (bound_test ranks a)) (bound_test_plain ranks b)
bound_test_plain ranks (Not' p a) = ap negated (bound_test_plain ranks a)

bound_exprs_plain : (ranks : List ℕ) (exprs : List Expr) → map (bound_expr ranks) (map plain exprs) ≡ map (bound_expr ranks) exprs
bound_exprs_plain ranks [] = refl
bound_exprs_plain ranks (expr ∷ exprs) = ap (λ x. x ∷ map (bound_expr ranks) (map plain exprs)) (bound_plain ranks expr) ∙ ap (λ xs. bound_expr ranks expr ∷ xs) (bound_exprs_plain ranks exprs)

bound_op_plain : (ranks : List ℕ) (op : Op) → bound_op ranks (plain_op op) ≡ bound_op ranks op
bound_op_plain ranks (Keep input test) = ap (Keep input) (bound_test_plain ranks test)
bound_op_plain ranks (View input exprs) = ap (View input) (bound_exprs_plain ranks exprs)
bound_op_plain ranks op = refl

bound_nodes_plain : (ranks : List ℕ) (nodes : List Node) → map (bound_node ranks) (map plain_node nodes) ≡ map (bound_node ranks) nodes
bound_nodes_plain ranks [] = refl
bound_nodes_plain ranks (node ∷ nodes) =
    ap (λ (op : Op). let own : Node = record { name = node.name; columns = node.columns; op = op } in own ∷ map (bound_node ranks) (map plain_node nodes)) (bound_op_plain ranks node.op)
    ∙ ap (λ rest. bound_node ranks node ∷ rest) (bound_nodes_plain ranks nodes)

opened_plain : (texts : List (List ℕ)) (sources : List Node) (tables : List RawTable) → opening_of texts (map plain_node sources) tables ≡ opening_of texts sources tables
opened_plain texts [] tables = refl
opened_plain texts (source ∷ sources) [] = refl
opened_plain texts (source ∷ sources) (table ∷ tables) = ap (λ later. coded_table texts (length source.columns) table ∷ later) (opened_plain texts sources tables)

pub run_of_plain : (script : Script) (tables : List RawTable) (feed : RawFeed) → run_of (plain_script script) tables feed ≡ run_of script tables feed
run_of_plain script tables feed =
    let texts = texts_of script.literals tables feed in
    ap (λ (nodes : List Node). let run : Run = record { plan = record { nodes = nodes; printed = script.plan.printed; published = script.plan.published }; opening = opening_of texts (sources_of (map plain_node script.plan.nodes)) tables; batches = coded_feed texts feed; texts = texts } in run) (bound_nodes_plain (ranks_of texts script.literals) script.plan.nodes)
    ∙ ap (λ (opening : List PlainTable). let run : Run = record { plan = bound script texts; opening = opening; batches = coded_feed texts feed; texts = texts } in run) (ap (λ sources. opening_of texts sources tables) (sources_plain script.plan.nodes) ∙ opened_plain texts (sources_of script.plan.nodes) tables)
