use Rattle.std.proofs.Common.{◌≡◌, ap, sym, ◌∙◌, ◌++◌, length, take, drop}
use Rattle.std.{specs.List.position_or_len, proofs.lemmas.List.{take_at, drop_at}}
use Rattle.update_text.{specs.Reading.is_end, proofs.ReadFields.plain_length}
use Rattle.update_text.proofs.read_fields.read_plain.Goals as goal

pub returns-clause-told : goal.returns-clause-told
returns-clause-told c told rest plain ends same =
    let bytes = c.args.bytes.now in
    let count : c.length_of_plain.result ≡ length told = c.length_of_plain.ensures.place ∙ ap (position_or_len is_end) same ∙ plain_length told rest plain ends in (
      c.split_at.ensures.back ∙ ap (drop c.length_of_plain.result) same ∙ drop_at told rest c.length_of_plain.result (sym count),
      c.in_ok-extend_from_slice.ensures.items
          ∙ ap (λ bytes. c.args.field.now.items ++ bytes) (c.split_at.ensures.front ∙ ap (take c.length_of_plain.result) same ∙ take_at told rest c.length_of_plain.result (sym count)),
    )
