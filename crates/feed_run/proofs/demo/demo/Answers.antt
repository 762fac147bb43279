use Rattle.std.proofs.Common.{◌≡◌, ◌∙◌, [], refl, subst, List, ℕ}
use Rattle.tick_model.specs.Texts.{records_text, summary_text}
use Rattle.made_run.specs.Run.{made}
use Rattle.replay.specs.Outcomes.{IsDone}
use Rattle.feed_run.{proofs.DemoLemmas.{few_words, made_last, made_summary}, proofs.OkLemmas.if_ok_more}
use Rattle.feed_run.proofs.demo.demo.Goals as goal

pub run_totals-requires-clause-few_words : goal.run_totals-requires-clause-few_words
run_totals-requires-clause-few_words g c κs within =
    few_words c.args.steps c.in-Ok.run' c.in-Ok.ensures.run c.args.knobs.now c.requires.few_callers c.requires.few_snaps

pub summary-requires : goal.summary-requires
summary-requires g c =
    let run = c.in-Ok.run' in
    let totals = c.in-Some.totals in
    subst (λ n. IsDone run n totals.records totals.rows) (made_last c.args.steps run c.in-Ok.ensures.run) c.in-Some.ensures

pub returns-clause-ends : goal.returns-clause-ends
returns-clause-ends g c =
    let steps = c.args.steps in
    let run = c.in-Ok.run' in
    let text = summary_text (made steps) steps in (
      [],
      refl,
      c.report_all.ensures.ends text
          (if_ok_more (λ (own : List (List (List ℕ))). records_text own ≡ summary_text run steps) (λ (own : List (List (List ℕ))). records_text own ≡ text) c.summary.result
          (λ own is. is ∙ made_summary steps run c.in-Ok.ensures.run) c.summary.ensures),
    )
