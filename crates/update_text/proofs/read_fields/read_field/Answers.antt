use Rattle.std.proofs.Common.{◌≡◌, sym, ◌∙◌, subst, ◌++◌, List, ℕ}
use Rattle.update_text.{specs.Reading.Gives, proofs.ReadFields.{in_quotes, without_quotes}}
use Rattle.update_text.proofs.read_fields.read_field.Goals as goal

pub returns-in-Some-clause-told : goal.returns-in-Some-clause-told
returns-in-Some-clause-told c told rest ends e =
    subst (λ (items : List ℕ). Gives c.read_quoted.result (λ left. (left.now ≡ rest) × (c.read_quoted.new.field.items ≡ items ++ told))) c.clear.ensures.items
    (c.read_quoted.ensures.told told rest ends (in_quotes told rest c.in-Some.quoted.now ends (sym c.in-Some.ensures ∙ e)))

pub returns-in-None-clause-told : goal.returns-in-None-clause-told
returns-in-None-clause-told c told rest ends e =
    let plain = without_quotes c.args.bytes.now told rest c.in-None.ensures e in
    subst (λ (items : List ℕ). Gives c.read_plain.result (λ left. (left.now ≡ rest) × (c.read_plain.new.field.items ≡ items ++ told))) c.clear.ensures.items
    (c.read_plain.ensures.told told rest plain.0 ends plain.1)
