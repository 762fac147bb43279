-- How a watched run ends, and the text that goes with it.
use Rattle.std.proofs.Common.{◌≡◌, refl, sym, ap, ◌∙◌, subst, ℕ, ◌+◌, ◌≤◌, ◌++◌, inl, inr, length, List, [], Option, Some, None}
use Rattle.std.{specs.Prelude.{is_some, option_map}, specs.Io.KnownBytes.append_known, specs.List.range_with_len}
use Rattle.key_lists.proofs.Every.{found_passes}
use Rattle.tick_io.{specs.Counts.Rose, specs.Written.AppendsPrefix, proofs.Prefixes.prefix_longer, proofs.RisingCounts.rose_earlier}
use Rattle.tick_model.{specs.declared.feed.Run.Run, specs.declared.table.NodeFault.NodeFault, specs.declared.update.FeedRule.FeedRule, specs.Spoiled.{Cause, ByBatch, ByNode, ByPublication, first_spoiled, good, spoiled_by, step_before}, specs.Texts.{done_record, record_text}}
use Rattle.replay.{specs.declared.outcome.Outcome.Outcome, specs.Outcomes.{IsFirstSpoiled, IsTold}}
use Rattle.replay.specs.declared.outcome.Outcome.TheVariants as Outcomes
use Rattle.watched_run.{specs.declared.watch.Watch.Watch, specs.Stopped.IsStopped, specs.ToCome.watch_until}
use Rattle.feed_run.{specs.Answers.{Ends, EndsByWatch}, specs.Verdicts.{Verdict, WatchDone, WatchSpoiled, status_of, watched_steps_verdict}, specs.Wholes.{IsLawful, cause_record, publication_record, whole}, proofs.EndLemmas.{ends_after, there}}

-- a verdict of a watched run: its text is that of the messages, and then these fields
pub record TellsWatch (run : Run) (watch : Watch) (of : Verdict) (fields : List (List ℕ)) : Type 0 where
  pub verdict : watched_steps_verdict run watch (first_spoiled run) ≡ Some of
  pub text : whole of [] ≡ watch_until run watch (good run) ++ record_text fields
  pub lawful : IsLawful of []

pub record HasWatchVerdict (run : Run) (watch : Watch) : Type 0 where
  pub of : Verdict
  pub fields : List (List ℕ)
  pub tells : TellsWatch run watch of fields

module _ (run : Run) (watch : Watch) where
  pub watch_done : (step : ℕ) → first_spoiled run ≡ None → step ≡ length run.batches → TellsWatch run watch (WatchDone run watch step) (done_record step)
  watch_done step unspoiled last =
      let good_is : good run ≡ Some step = ap (step_before (length run.batches)) unspoiled ∙ ap Some (sym last) in
      record {
        verdict = ap (watched_steps_verdict run watch) unspoiled ∙ ap (λ own. Some (WatchDone run watch own)) (sym last);
        text = ap (λ (o : Option ℕ). watch_until run watch o ++ record_text (done_record step)) (sym good_is);
        lawful = refl;
      }

  pub watch_spoiled : (step : ℕ) (cause : Cause) → IsFirstSpoiled run step cause → TellsWatch run watch (WatchSpoiled run watch step cause) (cause_record run step cause)
  watch_spoiled step cause is = record {
    verdict = ap (watched_steps_verdict run watch) is.first ∙ ap (option_map (WatchSpoiled run watch step)) is.by;
    text = refl;
    lawful = refl;
  }

  -- each watched run has a verdict
  pub has_watch_verdict : HasWatchVerdict run watch
  has_watch_verdict =
      (elim (first_spoiled run) as (λ o. first_spoiled run ≡ o → HasWatchVerdict run watch) [
        | None ↦ λ e. record { of = WatchDone run watch (length run.batches); fields = done_record (length run.batches); tells = watch_done (length run.batches) e refl }
        | Some step ↦ λ e.
            let by = there (spoiled_by run step) (found_passes (λ n. is_some (spoiled_by run n)) (range_with_len 0 (length run.batches + 1)) step e) in
            record { of = WatchSpoiled run watch step by.0; fields = cause_record run step by.0; tells = watch_spoiled step by.0 (record { first = e; by = by.1 }) }
      ]) refl

  -- what an outcome tells
  module _ (outcome : Outcome) (end : IsTold outcome → IsStopped run outcome) where
    end_of : (other : Outcome) → outcome ≡ other → IsTold other → IsStopped run other
    end_of other is told = subst (IsStopped run) is (end (subst IsTold (sym is) told))

    -- it is not done, and nothing was to be kept
    pub not_done : (step records : ℕ) (rows : List ℕ) → outcome ≡ Outcomes.Done step records rows → ⊥
    not_done step records rows is = end_of (Outcomes.Done step records rows) is tt

    pub not_kept : (words : ℕ) → outcome ≡ Outcomes.Kept words → ⊥
    not_kept words is = end_of (Outcomes.Kept words) is tt

    pub feed_ends : (step number : ℕ) (fault : FeedRule) → outcome ≡ Outcomes.Feed step number fault → TellsWatch run watch (WatchSpoiled run watch step (ByBatch number fault)) (cause_record run step (ByBatch number fault))
    feed_ends step number fault is = watch_spoiled step (ByBatch number fault) (end_of (Outcomes.Feed step number fault) is tt)

    pub node_ends : (step node : ℕ) (kind : NodeFault) → outcome ≡ Outcomes.Node step node kind → TellsWatch run watch (WatchSpoiled run watch step (ByNode node kind)) (cause_record run step (ByNode node kind))
    node_ends step node kind is = watch_spoiled step (ByNode node kind) (end_of (Outcomes.Node step node kind) is tt)

    pub publish_ends : (step number rows limit : ℕ) → outcome ≡ Outcomes.Publish step number rows limit → TellsWatch run watch (WatchSpoiled run watch step (ByPublication number rows)) (publication_record run step number rows limit)
    publish_ends step number rows limit is =
        let own = end_of (Outcomes.Publish step number rows limit) is tt in
        subst (λ n. TellsWatch run watch (WatchSpoiled run watch step (ByPublication number rows)) (publication_record run step number rows n)) (sym own.1)
        (watch_spoiled step (ByPublication number rows) own.0)

module _ {S : Type 0} (bytes : S → Option (List ℕ)) (failures : S → ℕ) (run : Run) (watch : Watch) (first mid last joined : S) (answer result : ℕ) where
  -- a record was written after the messages
  pub watch_recorded : (of : Verdict) (fields : List (List ℕ)) → TellsWatch run watch of fields → bytes mid ≡ append_known (bytes first) (watch_until run watch (good run)) → failures first ≤ failures mid
      → Ends (status_of of) (record_text fields) (Rose (failures mid) (failures last)) (bytes mid) (bytes last) answer → joined ≡ last → result ≡ answer
      → EndsByWatch run watch (Rose (failures first) (failures joined)) (bytes first) (bytes joined) result
  watch_recorded of fields tells wrote rising ends out status =
      subst (λ (s : S). EndsByWatch run watch (Rose (failures first) (failures s)) (bytes first) (bytes s) result) (sym out)
      (subst (λ (n : ℕ). EndsByWatch run watch (Rose (failures first) (failures last)) (bytes first) (bytes last) n) (sym status) (
        of,
        tells.verdict,
        (
          [],
          tells.lawful,
          ends_after (status_of of) (watch_until run watch (good run)) (record_text fields) (whole of []) (Rose (failures mid) (failures last)) (Rose (failures first) (failures last)) (bytes first) (bytes mid) (bytes last) answer tells.text wrote (rose_earlier (failures first) (failures mid) (failures last) rising) ends,
        ),
      ))

  -- the run ended before its last record
  pub watch_short : joined ≡ mid → result ≡ 1 → AppendsPrefix (bytes first) (bytes mid) (watch_until run watch (good run)) → EndsByWatch run watch (Rose (failures first) (failures joined)) (bytes first) (bytes joined) result
  watch_short out one wrote =
      let has = has_watch_verdict run watch in
      subst (λ (s : S). EndsByWatch run watch (Rose (failures first) (failures s)) (bytes first) (bytes s) result) (sym out) (
        has.of,
        has.tells.verdict,
        (
          [],
          has.tells.lawful,
          inr (inl (one, subst (AppendsPrefix (bytes first) (bytes mid)) (sym has.tells.text) (prefix_longer (bytes first) (bytes mid) (watch_until run watch (good run)) (record_text has.fields) wrote))),
        ),
      )

  pub watch_failed : joined ≡ mid → result ≡ 10 → Rose (failures first) (failures mid) → AppendsPrefix (bytes first) (bytes mid) (watch_until run watch (good run)) → EndsByWatch run watch (Rose (failures first) (failures joined)) (bytes first) (bytes joined) result
  watch_failed out ten fails wrote =
      let has = has_watch_verdict run watch in
      subst (λ (s : S). EndsByWatch run watch (Rose (failures first) (failures s)) (bytes first) (bytes s) result) (sym out) (
        has.of,
        has.tells.verdict,
        (
          [],
          has.tells.lawful,
          inr (inr (ten, fails, subst (AppendsPrefix (bytes first) (bytes mid)) (sym has.tells.text) (prefix_longer (bytes first) (bytes mid) (watch_until run watch (good run)) (record_text has.fields) wrote))),
        ),
      )
