use Rattle.std.proofs.Common.{◌∙◌, refl, sym}
use Rattle.feed_reader.{proofs.LineRecords.{no_quote, no_mark_first}, proofs.FieldLemmas.on_some}
use Rattle.feed_reader.proofs.records.plain_text.Goals as goal

pub returns-clause-quotes : goal.returns-clause-quotes
returns-clause-quotes c = on_some c.ok.result _ (no_quote c.args.bytes.now c.memchr.result c.memchr.ensures (sym c.is_some.ensures ∙ c.if-is_some.false))

pub returns-clause-mark : goal.returns-clause-mark
returns-clause-mark c =
    on_some c.ok.result _ (no_mark_first c.args.bytes.now c.first.result _ refl c.first.ensures.value (sym c.eq.ensures ∙ c.if-eq.false))
