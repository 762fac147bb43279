use Rattle.std.proofs.Common.{◌++◌, ◌∷◌, [], ◌∙◌, ap, List, ℕ}
use Rattle.tick_model.specs.Texts.{done_record}
use Rattle.feed_run.{specs.Summaries.demo_record, proofs.SummaryLemmas.summary_from}
use Rattle.feed_run.proofs.summary.summary.Goals as goal

pub returns : goal.returns
returns c =
    let totals = c.args.totals.now in
    let onto : List (List (List ℕ)) → List (List ℕ) → List (List (List ℕ)) = λ records fields. records ++ fields ∷ [] in
    summary_from c.args.run.now c.args.steps totals.records totals.rows c.push.new.self c.push_sizes.new.records c.push-2.new.self c.as_slice.result.now c.as_slice-2.result.now c.requires
    (c.in_ok-push.ensures.ok ∙ ap (onto c.new-records.result) c.in_ok-demo_record.ensures ∙ ap (λ (own : List (List (List ℕ))). onto own (demo_record c.args.steps totals.records)) c.new-records.ensures)
    c.in_ok-push_sizes.ensures
    (c.in_ok-push-2.ensures.ok ∙ ap (onto c.push_sizes.new.records) (c.in_ok-done_record.ensures ∙ ap done_record c.from.ensures))
    c.as_slice.ensures c.as_slice-2.ensures
