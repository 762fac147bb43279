-- Scripts that are taken, and the runs that are made of them.
use Rattle.std.proofs.Common.{◌≡◌, ℕ, ◌<◌, ◌≤◌, ◌^◌, List, [], map, cond, Option, Result, Ok, Err, sym, ap, ◌∙◌, length, arith}
use mathlib.Core.Path.{fun_ext}
use Rattle.std.{specs.Prelude.{option_map, All}, proofs.lemmas.Bool.lt-ltb, proofs.lemmas.List.length-map}
use Rattle.key_lists.proofs.Every.{all_from, every_unmapped, every_weaker}
use Rattle.tick_model.{specs.declared.feed.Run.Run, specs.declared.plan.Node.Node, specs.declared.plan.Plan.Plan, specs.LawfulRuns.{IsLawfulRun, sources_of}}
use Rattle.script_lines.{specs.Lines.lines_of, specs.declared.fault.ScriptKind.TheVariants.TooLong}
use Rattle.script_reader.{specs.declared.script.Script.Script, specs.Binding.{bound_node, ranks_of}, specs.Plain.{plain_node, plain_plan, plain_script}, specs.Scripts.{Refusal as Refused, nothing, after_lines, script_of}}
use Rattle.script_laws.proofs.Lawful.{bound_lawful, script_lawful, script_written}
use Rattle.feed_reader.{specs.declared.raw.RawFeed.RawFeed, specs.declared.raw.RawTable.RawTable, specs.Assembled.{AreTablesOf, plain_run, run_of}, specs.Coding.texts_of, specs.Feeds.feed_of, proofs.AssembledLemmas.run_is_lawful, proofs.PlainFeeds.feed_plain}
use Rattle.feed_run.{specs.declared.refusal.Refusal.Refusal, specs.declared.refusal.Refusal.TheVariants.Script as ScriptRefused, specs.Readings.{script_read, script_in, feed_read, feed_in}, proofs.PlainReadings.{run_of_plain, tables_are_plain}}

-- a script that is too long
pub script_long : (bytes : List ℕ) → 1048576 < length bytes → script_in bytes ≡ Err (ScriptRefused 0 TooLong)
unfolding script_of
script_long bytes long = ap (λ b. script_read (cond b (Err (record { line = 0; kind = TooLong })) (after_lines 1 nothing (lines_of bytes)))) (lt-ltb 1048576 (length bytes) long)

-- a script that is taken is one that is read
read_taken : (told : Result Script Refused) (script : Script) → script_read told ≡ Ok script → told ≡ Ok script
read_taken (Err refused) script e = cc
read_taken (Ok own) script e = let same : own ≡ script = cc in ap Ok same

pub script_taken : (bytes : List ℕ) (script : Script) → script_in bytes ≡ Ok script → script_of bytes ≡ Ok script
script_taken bytes script e = read_taken (script_of bytes) script e

-- a script that is taken has few nodes, each of few columns
pub few_nodes : (bytes : List ℕ) (script : Script) → script_in bytes ≡ Ok (plain_script script) → length script.plan.nodes ≤ 256
few_nodes bytes script e =
    let few : length (map plain_node script.plan.nodes) ≤ 256 = (script_lawful [] bytes (plain_script script) (script_taken bytes (plain_script script) e)).few in
    omega (arith, few, length-map script.plan.nodes plain_node)

pub few_columns : (bytes : List ℕ) (script : Script) → script_in bytes ≡ Ok (plain_script script) → All (λ node. length node.columns < 2 ^ 32) script.plan.nodes
few_columns bytes script e =
    all_from (λ (node : Node). length node.columns < 2 ^ 32) script.plan.nodes
    (every_weaker (λ (node : Node). length node.columns ≤ 32) (λ node. length node.columns < 2 ^ 32) script.plan.nodes (λ node few. omega (arith, few))
    (every_unmapped (λ (node : Node). length node.columns ≤ 32) plain_node script.plan.nodes (script_written bytes (plain_script script) (script_taken bytes (plain_script script) e)).columns))

-- a feed of its plan
pub feed_in_plain : (plan : Plan) → feed_in (plain_plan plan) ≡ feed_in plan
feed_in_plain plan = fun_ext (λ (bytes : List ℕ). ap feed_read (feed_plain plan bytes))

pub feed_found_plain : (plan : Plan) (content : Option (List ℕ)) → option_map (feed_in (plain_plan plan)) content ≡ option_map (feed_in plan) content
feed_found_plain plan content = ap (λ (of : List ℕ → Result RawFeed Refusal). option_map of content) (feed_in_plain plan)

-- the run has the nodes of the script
pub nodes_kept : (script : Script) (tables : List RawTable) (feed : RawFeed) (run : Run) → plain_run run ≡ run_of script tables feed → length run.plan.nodes ≡ length script.plan.nodes
nodes_kept script tables feed run made =
    sym (length-map run.plan.nodes plain_node) ∙ ap (λ (own : Run). length own.plan.nodes) made
    ∙ length-map script.plan.nodes (bound_node (ranks_of (texts_of script.literals tables feed) script.literals))

-- the run of it
module _ (script : Script) (tables : List RawTable) (feed : RawFeed) (run : Run) (made : plain_run run ≡ run_of script tables feed) where
  pub run_is_plain : run_of (plain_script script) tables feed ≡ plain_run run
  run_is_plain = run_of_plain script tables feed ∙ sym made

  pub run_lawful : (lines bytes : List ℕ) → script_in lines ≡ Ok (plain_script script) → AreTablesOf (sources_of script.plan.nodes) tables → feed_of script.plan bytes ≡ Ok feed → length run.texts < 2 ^ 63 → IsLawfulRun run
  run_lawful lines bytes taken are fed few =
      let read = script_taken lines (plain_script script) taken in
      let written = script_written lines (plain_script script) read in
      run_is_lawful (plain_script script) tables bytes feed run (sym run_is_plain) (tables_are_plain script.plan.nodes tables are) (feed_plain script.plan bytes ∙ fed) few
      (bound_lawful lines (plain_script script) run.texts read) written.numbers written.literals
