-- The records of a snapshot, from the words that a caller has kept.
use Rattle.std.proofs.Common.{◌≡◌, refl, sym, ap, ◌∙◌, subst, ℕ, ◌+◌, ◌%◌, ◌<◌, arith, length, List, [], get_or}
use Rattle.std.{specs.Prelude.{map, slice_index_or}, proofs.lemmas.List.{get_or-map, length-map}}
use Rattle.snapshot_store.specs.Lines.{count, node_in}
use Rattle.tick_laws.specs.Reached.{IsReached}
use Rattle.tick_model.{specs.declared.feed.Run.Run, specs.declared.plan.Published.Published, specs.declared.table.PlainTable.PlainTable, specs.Evaluation.table_at, specs.LawfulRuns.IsLawfulRun, specs.States.state, specs.Texts.{published_node, records_text, snapshot_records}, specs.Words.line}
use Rattle.update_text.{specs.declared.shown.Shown.Shown, specs.Snapshots.{AreWordsOf, snapshot_shown}}
use Rattle.replay.{specs.declared.printed.PrintedNode.PrintedNode, specs.Printed.{printed_of, published_of}, specs.Snapshots.table_number, proofs.PublishedTables.{no_publication, node_there, words_told}}

module _ (run : Run) (published : List PrintedNode) (all : published ≡ map (published_of run) run.plan.published) (caller call number : ℕ) (is : number ≡ (caller + call) % length published) (less : number < length published) (d : PrintedNode) where
  abbrev node : PrintedNode
  node = get_or published number d

  abbrev pub number_of_node : ℕ
  number_of_node = published_node run.plan.published (table_number run caller call)

  as_many : length published ≡ count run
  as_many = ap length all ∙ length-map run.plan.published (published_of run)

  number_is : number ≡ table_number run caller call
  number_is = is ∙ ap (λ n. (caller + call) % n) as_many

  within : number < count run
  within = subst (λ n. number < n) as_many less

  pub node_is : node ≡ printed_of run number_of_node
  node_is =
      ap (λ (nodes : List PrintedNode). get_or nodes number d) all
      ∙ get_or-map (published_of run) run.plan.published number no_publication d within
      ∙ ap (printed_of run) (sym (get_or-map (λ (p : Published). p.node) run.plan.published number no_publication 0 within) ∙ ap (node_in run.plan.published) number_is)

  pub table_told : IsLawfulRun run → (step : ℕ) → IsReached run step → (words : List ℕ) → words ≡ line run step (table_number run caller call) → AreWordsOf node.shown words (table_at (state run step) number_of_node)
  table_told lawful step reached words are =
      let there = node_there run lawful (table_number run caller call) (subst (λ n. n < count run) number_is within) in
      subst (λ told. AreWordsOf node.shown told (table_at (state run step) number_of_node)) (sym are)
      (words_told run lawful step reached number_of_node there node.shown (ap (λ (of : PrintedNode). of.shown.columns) node_is))

  pub records_told : (step : ℕ) → records_text (snapshot_shown caller call step node.shown run.texts (table_at (state run step) number_of_node).rows) ≡ records_text (snapshot_records run caller call step)
  records_told step = ap (λ (of : PrintedNode). records_text (snapshot_shown caller call step of.shown run.texts (table_at (state run step) number_of_node).rows)) node_is
