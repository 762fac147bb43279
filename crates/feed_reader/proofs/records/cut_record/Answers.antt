use Rattle.std.proofs.Common.{◌∷◌, ℕ, List, ap, refl, subst, sym, ◌∙◌}
use Rattle.std.{specs.Str.IsUtf8, proofs.lemmas.Str.IsUtf8-drop}
use Rattle.feed_reader.{specs.Records.{are_texts, field_texts, has_quote}, proofs.FieldLemmas.{pushed, texts_push}, proofs.LineRecords.{record_begins, field_boundary, field_text, behind_text, comma_boundary, comma_first, next_field, last_field, quote_behind}}
use Rattle.feed_reader.proofs.records.cut_record.Goals as goal

pub fields-init : goal.fields-init
fields-init c =
    let empty = ap field_texts c.requires.empty in
    record {
      text = c.utf8.text;
      read = record_begins (field_texts c.args.fields.now.items) c.args.text.now empty c.requires.plain c.requires.some c.requires.begins;
      plain = c.requires.plain;
      texts = ap are_texts empty;
    }

pub split_at-requires : goal.split_at-requires
split_at-requires c = field_boundary c.fields.rest.now c.field_len.result (rw c.as_bytes.ensures.value at c.field_len.ensures)

pub split_at-requires-then-eq : goal.split_at-requires-then-eq
split_at-requires-then-eq c =
    let behind = c.split_at.result.1.now in
    comma_boundary behind (behind_text c.fields.rest.now behind c.field_len.result (rw c.as_bytes.ensures.value at c.field_len.ensures) c.split_at.ensures.back c.fields.invariant.text)
    (comma_first behind c.first.result _ refl (rw c.as_bytes-in-fields.ensures.value at c.first.ensures.value) (sym c.eq.ensures ∙ c.if-eq.true))

pub returns-else-eq-clause-cut : goal.returns-else-eq-clause-cut
returns-else-eq-clause-cut c =
    last_field c.args.text.now c.fields.rest.now c.split_at.result.0.now c.split_at.result.1.now (field_texts c.fields.fields.items) (field_texts c.push.new.self.items) c.field_len.result
    (rw c.as_bytes.ensures.value at c.field_len.ensures) c.split_at.ensures.front c.split_at.ensures.back (pushed c.fields.fields.items c.push.new.self.items c.split_at.result.0 c.in_ok-push.ensures.items) c.fields.invariant.read
    c.first.result _ refl (rw c.as_bytes-in-fields.ensures.value at c.first.ensures.value) (sym c.eq.ensures ∙ c.if-eq.false)

pub returns-else-eq-clause-texts : goal.returns-else-eq-clause-texts
returns-else-eq-clause-texts c =
    let field = c.split_at.result.0 in
    texts_push c.fields.fields.items c.push.new.self.items field (pushed c.fields.fields.items c.push.new.self.items field c.in_ok-push.ensures.items) c.fields.invariant.texts
    (field_text c.fields.rest.now field.now c.field_len.result (rw c.as_bytes.ensures.value at c.field_len.ensures) c.split_at.ensures.front c.fields.invariant.text)

pub returns-else-eq-clause-plain : goal.returns-else-eq-clause-plain
returns-else-eq-clause-plain c = ap has_quote c.split_at.ensures.back ∙ quote_behind c.field_len.result c.fields.rest.now c.fields.invariant.plain

pub fields-preserved : goal.fields-preserved
fields-preserved c =
    let rest = c.fields.rest.now in
    let n = c.field_len.result in
    let run = rw c.as_bytes.ensures.value at c.field_len.ensures in
    let field = c.split_at.result.0 in
    let behind = c.split_at.result.1.now in
    let later = c.split_at-then-eq.result.1.now in
    let back = c.split_at-then-eq.ensures.back in
    let put = pushed c.fields.fields.items c.push.new.self.items field c.in_ok-push.ensures.items in
    let comma = comma_first behind c.first.result _ refl (rw c.as_bytes-in-fields.ensures.value at c.first.ensures.value) (sym c.eq.ensures ∙ c.if-eq.true) in
    let utf8 = behind_text rest behind n run c.split_at.ensures.back c.fields.invariant.text in
    let none = ap has_quote back ∙ quote_behind 1 behind (ap has_quote c.split_at.ensures.back ∙ quote_behind n rest c.fields.invariant.plain) in
    record {
      text = subst IsUtf8 (sym back) (IsUtf8-drop behind 1 utf8 (comma_boundary behind utf8 comma));
      read =
          next_field c.args.text.now rest field.now behind (field_texts c.fields.fields.items) (field_texts c.push.new.self.items) n run c.split_at.ensures.front c.split_at.ensures.back put c.fields.invariant.read
          later (comma ∙ ap (λ (all : List ℕ). 44 ∷ all) (sym back)) none;
      plain = none;
      texts = texts_push c.fields.fields.items c.push.new.self.items field put c.fields.invariant.texts (field_text rest field.now n run c.split_at.ensures.front c.fields.invariant.text);
    }
