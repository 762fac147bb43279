-- Why a watched run ends before its last step.
--     IsStopped run outcome      it is not done: this is what spoils the first step that is spoiled
use Rattle.tick_model.specs.declared.feed.Run.{Run}
use Rattle.replay.{specs.declared.outcome.Outcome.Outcome, specs.declared.outcome.Outcome.TheVariants.Done, specs.Outcomes.IsEnd}

abbrev pub IsStopped : Run → Outcome → Type 0
IsStopped run (Done step records rows) = ⊥
IsStopped run outcome = IsEnd run outcome
