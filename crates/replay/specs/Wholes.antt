-- What is written from a step on: the updates of the good steps from there on, and the snapshots of a choice.
--     AddsWhole run knobs last old new      the snapshots of a choice up to the last good step were written
--     AddsPrefix run knobs last old new      a prefix of such a text was written
--     HasEndedFrom run knobs step outcome old new before after      the steps end with this outcome, and their text from this one on was written
use Rattle.std.{specs.Prelude.{◌≡◌, ℕ, ◌≤◌, ◌++◌, List, [], Option, Some, None}, specs.Io.KnownBytes.append_known}
use Rattle.tick_io.{specs.Counts.Rose, specs.Written.AppendsPrefix}
use Rattle.tick_model.{specs.declared.feed.Run.Run, specs.Choices.IsChoice, specs.Spoiled.good, specs.Texts.snapshots_text}
use Rattle.replay.{specs.declared.outcome.Knobs.Knobs, specs.declared.outcome.Outcome.Outcome, specs.declared.outcome.Outcome.TheVariants.Write, specs.Outcomes.{IsEnd, IsLawfulChoice, IsTold}, specs.ToCome.text_from}

pub record AddsWhole (run : Run) (knobs : Knobs) (last : ℕ) (old new : Option (List ℕ)) : Type 0 where
  pub choice : List (List ℕ)
  pub lawful : IsChoice knobs.callers knobs.snaps last choice
  pub written : new ≡ append_known old (snapshots_text run choice)

pub record AddsPrefix (run : Run) (knobs : Knobs) (last : ℕ) (old new : Option (List ℕ)) : Type 0 where
  pub choice : List (List ℕ)
  pub lawful : IsChoice knobs.callers knobs.snaps last choice
  pub written : AppendsPrefix old new (snapshots_text run choice)

abbrev pub rest_from : Run → ℕ → Option ℕ → List (List ℕ) → List ℕ
rest_from run step None choice = []
rest_from run step (Some last) choice = text_from run step ++ snapshots_text run choice

pub record WritesRest (run : Run) (knobs : Knobs) (step : ℕ) (old new : Option (List ℕ)) : Type 0 where
  pub choice : List (List ℕ)
  pub lawful : IsLawfulChoice knobs (good run) choice
  pub written : new ≡ append_known old (rest_from run step (good run) choice)

pub record WritesSome (run : Run) (knobs : Knobs) (step : ℕ) (old new : Option (List ℕ)) : Type 0 where
  pub choice : List (List ℕ)
  pub lawful : IsLawfulChoice knobs (good run) choice
  pub written : AppendsPrefix old new (rest_from run step (good run) choice)

pub record HasEndedFrom (run : Run) (knobs : Knobs) (step : ℕ) (outcome : Outcome) (old new : Option (List ℕ)) (before after : ℕ) : Type 0 where
  pub end : IsTold outcome → IsEnd run outcome
  pub whole : IsTold outcome → WritesRest run knobs step old new
  pub prefix : WritesSome run knobs step old new
  pub failed : outcome ≡ Write → Rose before after
  pub never_falls : before ≤ after
  pub steady : IsTold outcome → after ≡ before
