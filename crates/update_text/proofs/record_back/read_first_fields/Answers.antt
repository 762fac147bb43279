use Rattle.std.proofs.Common.{ap, ◌∙◌, ◌∷◌, ◌++◌, [], List, ℕ}
use Rattle.update_text.{specs.Reading.next_fields, proofs.Quoting.record_before, proofs.ReadFields.fields_end, proofs.ReadRows.gives_memory}
use Rattle.update_text.proofs.record_back.read_first_fields.Goals as goal

pub returns-in_err-rest : goal.returns-in_err-rest
returns-in_err-rest c first others rest e =
    gives_memory c.from_residual.result _ c.in_err-rest.field-0.0 c.from_residual.ensures.1
    (c.in_err-rest.ensures.told first (next_fields others rest) (fields_end others rest) (e ∙ record_before first others rest))

pub returns-in_err-read_next_fields : goal.returns-in_err-read_next_fields
returns-in_err-read_next_fields c first others rest e =
    let read = c.in_ok-rest.ensures.told first (next_fields others rest) (fields_end others rest) (e ∙ record_before first others rest) in
    gives_memory c.from_residual-in_err-read_next_fields.result _ c.in_err-read_next_fields.field-0.0 c.from_residual-in_err-read_next_fields.ensures.1
    (c.in_err-read_next_fields.ensures others rest read.0)

pub returns : goal.returns
returns c first others rest e =
    let read = c.in_ok-rest.ensures.told first (next_fields others rest) (fields_end others rest) (e ∙ record_before first others rest) in
    let all = c.in_ok-read_next_fields.ensures others rest read.0 in
    all.1 ∙ ap (λ (some : List (List ℕ)). some ++ others) (c.in_ok-push.ensures.ok ∙ ap (λ (some : List (List ℕ)). some ++ c.of.result ∷ []) c.new-fields.ensures) ∙ ap (λ (field : List ℕ). field ∷ others) (c.of.ensures ∙ read.1)
