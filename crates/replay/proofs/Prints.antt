-- What the printed nodes print at a step.
use Rattle.std.proofs.Common.{◌≡◌, sym, ap, ◌∙◌, subst, ℕ, ◌+◌, ◌<◌, ◌^◌, ◌++◌, arith, length, length-append, List, [], ◌∷◌, map, take, drop, get_or, Result, Ok, Err, Option}
use Rattle.std.{specs.Prelude.{flat_map, OnErr}, specs.Io.KnownBytes.append_known, proofs.lemmas.List.{append-nil, get_or-map, length-map, take-append-drop, take_more}, proofs.lemmas.Grind.flat_map-append}
use Rattle.key_lists.proofs.Parts.{every_at}
use Rattle.tick_io.proofs.Prefixes.{append_known-append_known}
use Rattle.tick_laws.{specs.Reached.IsReached, proofs.FittingNodes.node_printable, proofs.ReachedTables.{bounded_at, reached_tables}, proofs.RunTicks.lawful_ticks}
use Rattle.tick_model.{specs.declared.feed.Run.Run, specs.declared.table.PlainTable.PlainTable, specs.LawfulRuns.IsLawfulRun, specs.Printable.IsPrintable, specs.States.tick, specs.Texts.{columns_at, node_records, record_text, records_text, step_records}}
use Rattle.tick_table.{specs.Exact.ticking, specs.Ticking.Ticking}
use Rattle.update_text.{specs.declared.shown.Shown.Shown, specs.Told.{told_change, update_shown}}
use Rattle.replay.{specs.declared.printed.PrintedNode.PrintedNode, specs.Printed.printed_of, proofs.RecordCounts.{flat_take_le, lawful_printed, step_few}}

pub on_err : {T E Q : Type 0} (r : Result T E) → Q → OnErr r Q
on_err (Ok x) q = tt
on_err (Err e) q = q

-- a piece is written after what was written before
pub written_more : (old mid new : Option (List ℕ)) (done piece whole : List ℕ) → mid ≡ append_known old done → new ≡ append_known mid piece → whole ≡ done ++ piece → new ≡ append_known old whole
written_more old mid new done piece whole before after all =
    after ∙ ap (λ known. append_known known piece) before ∙ append_known-append_known old done piece ∙ ap (append_known old) (sym all)

-- the table of a node at a step that is reached, its columns and its change
module _ (run : Run) (lawful : IsLawfulRun run) (step : ℕ) (reached : IsReached run step) (node : ℕ) (less : node < length run.plan.nodes) where
  pub width_is : (tick run step node).new.width ≡ length (columns_at run node)
  width_is =
      ap (λ (table : PlainTable). table.width) (lawful_ticks run lawful step reached node less).new_is
      ∙ (bounded_at run lawful step reached.batches node less ((reached_tables run lawful step reached).each node less)).width_is

  pub told_printable : IsPrintable (columns_at run node) run.texts (told_change (ticking (tick run step node)))
  told_printable = node_printable run lawful step reached node less

-- its records, by parts that are equal
pub shown_is : (run : Run) (step at node : ℕ) (shown : Shown) (texts : List (List ℕ)) (table : Ticking) → at ≡ step → shown ≡ (printed_of run node).shown → texts ≡ run.texts → table ≡ ticking (tick run step node) →
    update_shown at shown texts table ≡ node_records run step node
shown_is run step at node shown texts table stands shows same is =
    ap (λ n. update_shown n shown texts table) stands
    ∙ ap (λ (s : Shown). update_shown step s texts table) shows
    ∙ ap (λ (ts : List (List ℕ)). update_shown step (printed_of run node).shown ts table) same
    ∙ ap (λ (t : Ticking). update_shown step (printed_of run node).shown run.texts t) is

-- the printed node at hand
module _ (run : Run) (printed : List PrintedNode) (i : ℕ) (node : PrintedNode) (all : printed ≡ map (printed_of run) run.plan.printed) (less : i < length printed) (is : node ≡ get_or printed i node) where
  pub place_within : i < length run.plan.printed
  place_within = subst (λ n. i < n) (ap length all ∙ length-map run.plan.printed (printed_of run)) less

  node_at : node ≡ printed_of run (get_or run.plan.printed i 0)
  node_at = is ∙ ap (λ (ps : List PrintedNode). get_or ps i node) all ∙ get_or-map (printed_of run) run.plan.printed i 0 node place_within

  pub number_at : node.node ≡ get_or run.plan.printed i 0
  number_at = ap (λ (n : PrintedNode). n.node) node_at

  pub node_shown : node ≡ printed_of run node.node
  node_shown = node_at ∙ ap (printed_of run) (sym number_at)

  pub node_there : IsLawfulRun run → node.node < length run.plan.nodes
  node_there lawful =
      subst (λ n. n < length run.plan.nodes) (sym number_at) (every_at (λ n. n < length run.plan.nodes) run.plan.printed i 0 place_within (lawful_printed run.plan lawful.plan).there)

-- the records of one node more, and those of the nodes after it
module _ (run : Run) (step i number : ℕ) (less : i < length run.plan.printed) (is : number ≡ get_or run.plan.printed i 0) where
  abbrev records : List ℕ → List (List (List ℕ))
  records = flat_map (node_records run step)

  abbrev before : List (List (List ℕ))
  before = records (take i run.plan.printed)

  pub records_more : records (take (i + 1) run.plan.printed) ≡ before ++ node_records run step number
  records_more =
      ap records (take_more run.plan.printed i 0 less)
      ∙ flat_map-append (node_records run step) (take i run.plan.printed) (get_or run.plan.printed i 0 ∷ [])
      ∙ ap (λ more. before ++ more) (append-nil (node_records run step (get_or run.plan.printed i 0)) ∙ ap (node_records run step) (sym is))

  pub text_more : records_text (records (take (i + 1) run.plan.printed)) ≡ records_text before ++ records_text (node_records run step number)
  text_more = ap records_text records_more ∙ flat_map-append record_text before (node_records run step number)

  pub count_more : length (records (take (i + 1) run.plan.printed)) ≡ length before + length (node_records run step number)
  count_more = ap length records_more ∙ length-append before (node_records run step number)

  pub text_splits : (records_text before ++ records_text (node_records run step number)) ++ records_text (records (drop (i + 1) run.plan.printed)) ≡ records_text (step_records run step)
  text_splits =
      ap (λ text. text ++ records_text (records (drop (i + 1) run.plan.printed))) (sym text_more)
      ∙ sym (flat_map-append record_text (records (take (i + 1) run.plan.printed)) (records (drop (i + 1) run.plan.printed)))
      ∙ ap records_text (sym (flat_map-append (node_records run step) (take (i + 1) run.plan.printed) (drop (i + 1) run.plan.printed)) ∙ ap records (take-append-drop (i + 1) run.plan.printed))

  pub count_fits : IsLawfulRun run → IsReached run step → length before + length (node_records run step number) < 2 ^ 64
  count_fits lawful reached = omega (arith, count_more, flat_take_le (node_records run step) (i + 1) run.plan.printed, step_few run lawful step reached)

-- what a step prints, by parts that are equal
pub step_is : (run : Run) (step : ℕ) (other : Run) (at : ℕ) → other ≡ run → at ≡ step → records_text (step_records other at) ≡ records_text (step_records run step)
step_is run step other at same stands = ap (λ (of : Run). records_text (step_records of at)) same ∙ ap (λ n. records_text (step_records run n)) stands

pub count_is : (run : Run) (step : ℕ) (other : Run) (at count : ℕ) → other ≡ run → at ≡ step → count ≡ length (step_records other at) → count ≡ length (step_records run step)
count_is run step other at count same stands counts = counts ∙ ap (λ (of : Run). length (step_records of at)) same ∙ ap (λ n. length (step_records run n)) stands
