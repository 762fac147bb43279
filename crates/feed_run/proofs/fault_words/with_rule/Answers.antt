use Rattle.std.proofs.Common.{◌≡◌, ◌++◌, sym, subst}
use Rattle.std.specs.Prelude.{IfOk}
use Rattle.tick_model.specs.declared.update.FeedRule.{FeedRule}
use Rattle.feed_run.{specs.FaultWords.rule_fields, proofs.FieldLemmas.{one_more, two}}
use Rattle.feed_run.proofs.fault_words.with_rule.Goals as goal

pub returns-in_ok-text-in-TooManyRows : goal.returns-in_ok-text-in-TooManyRows
returns-in_ok-text-in-TooManyRows c =
    subst (λ (of : FeedRule). IfOk c.number.result (λ told. told ≡ c.args.fields ++ rule_fields of)) (sym c.in-TooManyRows.is)
    (one_more c.number.result _ _ _ (two c.args.fields _ _ _ (c.in_ok-text-in-TooManyRows.ensures)) c.number.ensures)
