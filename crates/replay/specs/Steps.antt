-- What the steps of a run come to.
--     HasRun run outcome last old new before after      after the opening, they end so, with this last good step, and the updates up to it are written
use Rattle.std.{specs.Prelude.{◌≡◌, ℕ, ◌≤◌, List, Option}, specs.Io.KnownBytes.append_known}
use Rattle.tick_io.{specs.Counts.Rose, specs.Written.AppendsPrefix}
use Rattle.tick_model.specs.declared.feed.Run.{Run}
use Rattle.replay.{specs.declared.outcome.Outcome.Outcome, specs.declared.outcome.Outcome.TheVariants.Write, specs.Outcomes.{IsEnd, IsTold}, specs.Standing.IsLast, specs.ToCome.text_from}

pub record HasRun (run : Run) (outcome : Outcome) (last : ℕ) (old new : Option (List ℕ)) (before after : ℕ) : Type 0 where
  pub end : IsTold outcome → IsEnd run outcome
  pub last_is : IsTold outcome → IsLast run last
  pub whole : IsTold outcome → new ≡ append_known old (text_from run 1)
  pub prefix : AppendsPrefix old new (text_from run 1)
  pub failed : outcome ≡ Write → Rose before after
  pub never_falls : before ≤ after
  pub steady : IsTold outcome → after ≡ before
