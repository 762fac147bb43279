-- What the outcome of a run tells of its verdict.
use Rattle.std.proofs.Common.{◌≡◌, ◌<◌, ℕ, List, sym, subst}
use Rattle.std.proofs.lemmas.Bool.{le-ltb, lt-ltb}
use Rattle.tick_model.{specs.declared.feed.Run.Run, specs.declared.table.NodeFault.NodeFault, specs.declared.update.FeedRule.FeedRule, specs.Spoiled.{ByBatch, ByNode, ByPublication}, specs.Texts.done_record}
use Rattle.replay.{specs.declared.outcome.Knobs.Knobs, specs.declared.outcome.Outcome.Outcome, specs.Kept.{kept_words, most_words}, specs.Outcomes.{IsTold, IsVerdict}}
use Rattle.replay.specs.declared.outcome.Outcome.TheVariants as Outcomes
use Rattle.feed_run.{specs.Verdicts.{Kept, Spoiled, Done}, specs.Wholes.{kept_record, publication_record, cause_record}, proofs.EndLemmas.{Tells, tells_kept, tells_done, tells_spoiled}}

module _ (run : Run) (knobs : Knobs) (outcome : Outcome) (told : IsTold outcome → IsVerdict run knobs outcome) where
  told_of : (other : Outcome) → outcome ≡ other → IsTold other → IsVerdict run knobs other
  told_of other is there = subst (IsVerdict run knobs) is (told (subst IsTold (sym is) there))

  pub done_tells : (step records : ℕ) (rows : List ℕ) → outcome ≡ Outcomes.Done step records rows → Tells run knobs (Done run knobs step) (done_record step)
  done_tells step records rows is =
      let own = told_of (Outcomes.Done step records rows) is tt in
      tells_done run knobs step (le-ltb most_words (kept_words run knobs) own.0) own.1.unspoiled own.1.step_is

  pub kept_tells : (words : ℕ) → outcome ≡ Outcomes.Kept words → Tells run knobs (Kept words) (kept_record words)
  kept_tells words is =
      let own = told_of (Outcomes.Kept words) is tt in
      let many : most_words < kept_words run knobs = subst (λ n. most_words < n) own.0 own.1 in
      subst (λ n. Tells run knobs (Kept n) (kept_record n)) (sym own.0) (tells_kept run knobs (lt-ltb most_words (kept_words run knobs) many))

  pub feed_tells : (step number : ℕ) (fault : FeedRule) → outcome ≡ Outcomes.Feed step number fault → Tells run knobs (Spoiled run knobs step (ByBatch number fault)) (cause_record run step (ByBatch number fault))
  feed_tells step number fault is =
      let own = told_of (Outcomes.Feed step number fault) is tt in
      tells_spoiled run knobs step (ByBatch number fault) (le-ltb most_words (kept_words run knobs) own.0) own.1

  pub node_tells : (step node : ℕ) (kind : NodeFault) → outcome ≡ Outcomes.Node step node kind → Tells run knobs (Spoiled run knobs step (ByNode node kind)) (cause_record run step (ByNode node kind))
  node_tells step node kind is =
      let own = told_of (Outcomes.Node step node kind) is tt in
      tells_spoiled run knobs step (ByNode node kind) (le-ltb most_words (kept_words run knobs) own.0) own.1

  pub publish_tells : (step number rows limit : ℕ) → outcome ≡ Outcomes.Publish step number rows limit → Tells run knobs (Spoiled run knobs step (ByPublication number rows)) (publication_record run step number rows limit)
  publish_tells step number rows limit is =
      let own = told_of (Outcomes.Publish step number rows limit) is tt in
      subst (λ n. Tells run knobs (Spoiled run knobs step (ByPublication number rows)) (publication_record run step number rows n)) (sym own.1.1)
      (tells_spoiled run knobs step (ByPublication number rows) (le-ltb most_words (kept_words run knobs) own.0) own.1.0)
