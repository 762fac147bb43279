use Rattle.std.proofs.Common.{List, ℕ, refl, sym, ap, ◌∙◌, arith}
use Rattle.std.{specs.Prelude.option_map, specs.Borrow.Bor}
use Rattle.csv.specs.Records.{fields_of}
use Rattle.feed_reader.{specs.declared.records.Records.Records, specs.Records.{at_hand, field_of}, proofs.FieldLemmas.{plain_field, quoted_field}, proofs.records.Records.field.Goals.{in-Plain, in-Quoted}}
use Rattle.feed_reader.proofs.records.Records.field.Goals as goal

pub returns : goal.returns
returns c =
    let place = c.args.place in
    elim c.match-self.branch [
      | in-Plain w ↦
          plain_field place c.unwrap_or.result _ c.match-self.field refl c.unwrap_or.ensures w.get.result w.deref.result.now w.in-Plain.plain.fields.items
          (w.field-is ∙ w.copied-field.ensures) (w.get.ensures.lookup.4 (omega arith)) w.deref.ensures.value
          ∙ ap (λ (records : Records). field_of (at_hand records) place) (sym w.in-Plain.is)
      | in-Quoted w ↦
          quoted_field place c.unwrap_or.result _ c.match-self.field refl c.unwrap_or.ensures (fields_of w.in-Quoted.quoted.fields)
          (ap (option_map (λ (field : Bor (List ℕ)). field.now)) w.field-is ∙ w.get-field.ensures.value)
          ∙ ap (λ (records : Records). field_of (at_hand records) place) (sym w.in-Quoted.is)
    ]
