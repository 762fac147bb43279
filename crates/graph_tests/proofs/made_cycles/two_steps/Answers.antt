use Rattle.std.proofs.Common.{◌≡◌, Result, Ok, Err, lit≤}
use Rattle.std.specs.Prelude.{IfOk}
use Rattle.tick_model.{specs.declared.feed.Run.Run, specs.LawfulRuns.IsLawfulRun}
use Rattle.feed_reader.specs.Assembled.{plain_run}
use Rattle.made_run.specs.Run.{made}
use Rattle.graph_tests.proofs.made_cycles.two_steps.Goals as goal

if_ok_more : {X E : Type 0} (P Q : X → Type 0) (r : Result X E) → ((x : X) → P x → Q x) → IfOk r P → IfOk r Q
if_ok_more P Q (Ok x) more is = more x is
if_ok_more P Q (Err e) more is = tt

pub returns : goal.returns
returns c = if_ok_more (λ (run : Run). plain_run run ≡ made 2) IsLawfulRun c.made_run.result (λ run is. c.made_runs_are_lawful.ensures.anywhere 2 run (lit≤ tt) is) c.made_run.ensures
