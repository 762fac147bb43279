use Rattle.std.proofs.Common.{◌≡◌, sym, ◌∙◌, ◌++◌}
use Rattle.tick_model.specs.Texts.{field_text}
use Rattle.update_text.{specs.Reading.next_fields, proofs.Backwards.rest_same, proofs.ReadFields.{fields_end, next_field}}
use Rattle.update_text.proofs.read_fields.read_next_field.Goals as goal

pub returns-in-Some-clause-told : goal.returns-in-Some-clause-told
returns-in-Some-clause-told c told others rest e =
    c.read_field.ensures.told told (next_fields others rest) (fields_end others rest)
    (rest_same 44 44 c.in-Some.others.now (field_text told ++ next_fields others rest) (sym c.in-Some.ensures ∙ e ∙ next_field told others rest))
