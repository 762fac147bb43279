use Rattle.std.proofs.Common.{◌≡◌, ◌∙◌, sym, ap, length}
use Rattle.tick_model.{specs.declared.feed.Run.Run, specs.Texts.updates_records}
use Rattle.replay.{specs.Outcomes.row_counts, proofs.Spoils.{good_before_next, none_is}}
use Rattle.replay.proofs.progress.PrintedRun.done.Goals as goal

pub returns : goal.returns
returns c =
    let run = c.args.run.now in
    let stands = c.requires in
    let last = length run.batches in
    let step_is : c.step-step.result ≡ last = c.step-step.ensures.step ∙ stands.step_is in
    record {
      unspoiled = none_is run (good_before_next run last stands.good);
      step_is = step_is;
      records_are = stands.records_are ∙ ap (λ n. length (updates_records run n)) (sym step_is);
      rows_are = c.in_ok-row_counts.ensures ∙ ap (λ (of : Run). row_counts of c.args.self.graph.step) stands.run_is ∙ ap (row_counts run) (stands.step_is ∙ sym step_is);
    }
