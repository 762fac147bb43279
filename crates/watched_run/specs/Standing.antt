-- A watched run under way.
--     IsTeller run watch teller      its messages up to the last one are told, and it has taken in the steps since
--     IsWatchedAt run watch step watching      so it is at this step, which is good, and no message is due
--     GoesOn run watch all old new watching      a part of the text that was to come was written, and the rest of it is to come
use Rattle.std.{specs.Prelude.{◌≡◌, ℕ, ◌+◌, ◌<◌, ◌++◌, List, Option}, specs.Io.KnownBytes.append_known}
use Rattle.replay.{specs.Printed.printed_of, specs.Standing.IsGood}
use Rattle.tick_model.{specs.declared.feed.Run.Run, specs.Evaluation.table_at, specs.States.state}
use Rattle.viewport.{specs.Slices.cut, specs.Subscribed.watching_at}
use Rattle.watched_run.{specs.declared.steps.Watching.Watching, specs.declared.teller.Teller.Teller, specs.declared.watch.Watch.Watch, specs.Messages.slice_of, specs.ToCome.text_from}

pub record IsTeller (run : Run) (watch : Watch) (teller : Teller) : Type 0 where
  pub printed_is : teller.printed ≡ printed_of run watch.node
  pub viewport_is : teller.viewport ≡ watching_at run watch.node (slice_of run watch) teller.last teller.since
  pub mirror_is : teller.mirror.new ≡ cut (slice_of run watch) (table_at (state run teller.last) watch.node)

pub record IsWatchedAt (run : Run) (watch : Watch) (step : ℕ) (watching : Watching) : Type 0 where
  pub run_is : watching.graph.run ≡ run
  pub step_is : watching.graph.step ≡ step
  pub good : IsGood run step
  pub tells : IsTeller run watch watching.teller
  pub here : watching.teller.last + watching.teller.since ≡ step
  pub not_due : watching.teller.since < watch.every

pub record GoesOn (run : Run) (watch : Watch) (all : List ℕ) (old new : Option (List ℕ)) (watching : Watching) : Type 0 where
  pub text : List ℕ
  pub written : new ≡ append_known old text
  pub rest : text ++ text_from run watch watching.teller.last watching.teller.since ≡ all
