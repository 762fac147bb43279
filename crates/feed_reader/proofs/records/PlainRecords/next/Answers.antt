use Rattle.std.proofs.Common.{ℕ, ap, sym, ◌∙◌, drop, length}
use Rattle.std.proofs.lemmas.Bool.{eqb-true}
use Rattle.feed_reader.{specs.Records.{has_quote, ends_line}, proofs.LineRecords.{begun, line_ends_boundary, none_left, quote_behind, stops}}
use Rattle.feed_reader.proofs.records.PlainRecords.next.Goals as goal

pub split_at-requires : goal.split_at-requires
split_at-requires c = line_ends_boundary c.args.self.now.left.now c.line_ends_len.result (rw c.as_bytes.ensures.value at c.as_bytes.ensures.utf8) (rw c.as_bytes.ensures.value at c.line_ends_len.ensures)

pub returns-then-is_empty-clause-next : goal.returns-then-is_empty-clause-next
returns-then-is_empty-clause-next c =
    let begin = c.split_at.result.1.now in
    begun c.line_ends_len.result c.args.self.now.left.now begin (rw c.as_bytes.ensures.value at c.line_ends_len.ensures) c.split_at.ensures.back
    ∙ none_left begin (eqb-true (length begin) 0 (sym c.is_empty.ensures ∙ c.if-is_empty.true))

pub cut_record-requires-clause-plain : goal.cut_record-requires-clause-plain
cut_record-requires-clause-plain c = ap has_quote c.split_at.ensures.back ∙ quote_behind c.line_ends_len.result c.args.self.now.left.now c.requires

pub cut_record-requires-clause-begins : goal.cut_record-requires-clause-begins
cut_record-requires-clause-begins c byte later is =
    let text = c.args.self.now.left.now in
    stops ends_line text byte later (ap (λ (n : ℕ). drop n text) (sym (rw c.as_bytes.ensures.value at c.line_ends_len.ensures)) ∙ sym c.split_at.ensures.back ∙ is)

pub returns-clause-next : goal.returns-clause-next
returns-clause-next c = (
  begun c.line_ends_len.result c.args.self.now.left.now c.split_at.result.1.now (rw c.as_bytes.ensures.value at c.line_ends_len.ensures) c.split_at.ensures.back ∙ c.in_ok-self.ensures.cut,
  c.in_ok-self.ensures.texts,
)
