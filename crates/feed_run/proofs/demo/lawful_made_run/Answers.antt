use Rattle.std.proofs.Common.{◌≡◌, None}
use Rattle.tick_model.{specs.declared.feed.Run.Run, specs.LawfulRuns.IsLawfulRun, specs.Spoiled.first_spoiled}
use Rattle.feed_reader.specs.Assembled.{plain_run}
use Rattle.made_run.specs.Run.{made}
use Rattle.feed_run.{proofs.DemoLemmas.made_unspoiled, proofs.OkLemmas.if_ok_more}
use Rattle.feed_run.proofs.demo.lawful_made_run.Goals as goal

pub returns-clause-lawful : goal.returns-clause-lawful
returns-clause-lawful c =
    let steps = c.args.steps in
    if_ok_more (λ (run : Run). plain_run run ≡ made steps) IsLawfulRun c.made_run.result (λ run is. c.made_runs_are_lawful.ensures.anywhere steps run c.requires is) c.made_run.ensures

pub returns-clause-unspoiled : goal.returns-clause-unspoiled
returns-clause-unspoiled c =
    let steps = c.args.steps in
    if_ok_more (λ (run : Run). plain_run run ≡ made steps) (λ (run : Run). first_spoiled run ≡ None) c.made_run.result (λ run is. made_unspoiled steps run is (c.made_runs_have_no_spoiled_step.ensures steps c.requires)) c.made_run.ensures
