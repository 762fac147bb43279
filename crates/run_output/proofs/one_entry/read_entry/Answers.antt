use Rattle.std.proofs.Common.{refl, ap, sym, ◌∙◌, ◌∷◌, true≢false, get_or, [], List, ℕ}
use Rattle.std.{specs.Prelude.codes, proofs.lemmas.List.append-nil}
use Rattle.tick_model.specs.Texts.{done_record, record_text, records_text}
use Rattle.update_text.proofs.ReadRows.{gives_memory}
use Rattle.run_output.{specs.declared.entry.OutputEntry.TheVariants.{Update, Snapshot, Done, Fault}, proofs.EntryTexts.{begins_with, differ_at, fields_are, fields_of, parts_of, tag_is, tag_of}}
use Rattle.run_output.proofs.one_entry.read_entry.Goals as goal

pub returns-in_err-fields-clause-told : goal.returns-in_err-fields-clause-told
returns-in_err-fields-clause-told c entry is e =
    let tables = c.args.tables.now in
    let texts = c.args.texts.now in
    gives_memory c.from_residual.result _ c.in_err-fields.field-0.0 c.from_residual.ensures.1
    (c.in_err-fields.ensures (tag_of entry) (fields_of tables entry) (records_text (parts_of tables texts entry)) (begins_with tables texts entry c.args.bytes.now is e))

pub returns-then-is_tag-clause-told : goal.returns-then-is_tag-clause-told
returns-then-is_tag-clause-told c (Update table step change) is e =
    c.read_change.ensures.told table step change is (c.field_at.ensures ∙ ap (λ (some : List (List ℕ)). get_or some 2 []) (fields_are c.args.tables.now c.args.texts.now (Update table step change) c.args.bytes.now c.in_ok-fields.fields c.in_ok-fields.ensures is e)) e
returns-then-is_tag-clause-told c (Snapshot table snapshot) is e =
    absurd (differ_at 1 (codes "step") (codes "snap") refl (sym (c.is_tag.ensures.yes c.if-is_tag.true) ∙ tag_is c.args.tables.now c.args.texts.now (Snapshot table snapshot) c.args.bytes.now c.in_ok-fields.fields c.field_at-tag.result.now c.in_ok-fields.ensures is e c.field_at-tag.ensures))
returns-then-is_tag-clause-told c (Done step) is e =
    absurd (differ_at 1 (codes "step") (codes "done") refl (sym (c.is_tag.ensures.yes c.if-is_tag.true) ∙ tag_is c.args.tables.now c.args.texts.now (Done step) c.args.bytes.now c.in_ok-fields.fields c.field_at-tag.result.now c.in_ok-fields.ensures is e c.field_at-tag.ensures))
returns-then-is_tag-clause-told c (Fault fields) is e =
    absurd (differ_at 1 (codes "step") (codes "fault") refl (sym (c.is_tag.ensures.yes c.if-is_tag.true) ∙ tag_is c.args.tables.now c.args.texts.now (Fault fields) c.args.bytes.now c.in_ok-fields.fields c.field_at-tag.result.now c.in_ok-fields.ensures is e c.field_at-tag.ensures))

pub returns-then-is_tag-2-clause-told : goal.returns-then-is_tag-2-clause-told
returns-then-is_tag-2-clause-told c (Update table step change) is e =
    absurd (differ_at 1 (codes "snap") (codes "step") refl (sym (c.is_tag-else-is_tag.ensures.yes c.if-is_tag-2.true) ∙ tag_is c.args.tables.now c.args.texts.now (Update table step change) c.args.bytes.now c.in_ok-fields.fields c.field_at-tag.result.now c.in_ok-fields.ensures is e c.field_at-tag.ensures))
returns-then-is_tag-2-clause-told c (Snapshot table snapshot) is e =
    c.read_table.ensures.told table snapshot is (c.field_at-then-is_tag-2.ensures ∙ ap (λ (some : List (List ℕ)). get_or some 4 []) (fields_are c.args.tables.now c.args.texts.now (Snapshot table snapshot) c.args.bytes.now c.in_ok-fields.fields c.in_ok-fields.ensures is e)) e
returns-then-is_tag-2-clause-told c (Done step) is e =
    absurd (differ_at 1 (codes "snap") (codes "done") refl (sym (c.is_tag-else-is_tag.ensures.yes c.if-is_tag-2.true) ∙ tag_is c.args.tables.now c.args.texts.now (Done step) c.args.bytes.now c.in_ok-fields.fields c.field_at-tag.result.now c.in_ok-fields.ensures is e c.field_at-tag.ensures))
returns-then-is_tag-2-clause-told c (Fault fields) is e =
    absurd (differ_at 1 (codes "snap") (codes "fault") refl (sym (c.is_tag-else-is_tag.ensures.yes c.if-is_tag-2.true) ∙ tag_is c.args.tables.now c.args.texts.now (Fault fields) c.args.bytes.now c.in_ok-fields.fields c.field_at-tag.result.now c.in_ok-fields.ensures is e c.field_at-tag.ensures))

pub returns-then-is_tag-3-clause-told : goal.returns-then-is_tag-3-clause-told
returns-then-is_tag-3-clause-told c (Update table step change) is e =
    absurd (differ_at 1 (codes "done") (codes "step") refl (sym (c.is_tag-else-is_tag-2.ensures.yes c.if-is_tag-3.true) ∙ tag_is c.args.tables.now c.args.texts.now (Update table step change) c.args.bytes.now c.in_ok-fields.fields c.field_at-tag.result.now c.in_ok-fields.ensures is e c.field_at-tag.ensures))
returns-then-is_tag-3-clause-told c (Snapshot table snapshot) is e =
    absurd (differ_at 1 (codes "done") (codes "snap") refl (sym (c.is_tag-else-is_tag-2.ensures.yes c.if-is_tag-3.true) ∙ tag_is c.args.tables.now c.args.texts.now (Snapshot table snapshot) c.args.bytes.now c.in_ok-fields.fields c.field_at-tag.result.now c.in_ok-fields.ensures is e c.field_at-tag.ensures))
returns-then-is_tag-3-clause-told c (Done step) is e =
    c.read_done.ensures.told step is (e ∙ append-nil (record_text (done_record step)))
returns-then-is_tag-3-clause-told c (Fault fields) is e =
    absurd (differ_at 1 (codes "done") (codes "fault") refl (sym (c.is_tag-else-is_tag-2.ensures.yes c.if-is_tag-3.true) ∙ tag_is c.args.tables.now c.args.texts.now (Fault fields) c.args.bytes.now c.in_ok-fields.fields c.field_at-tag.result.now c.in_ok-fields.ensures is e c.field_at-tag.ensures))

pub returns-clause-told : goal.returns-clause-told
returns-clause-told c (Update table step change) is e =
    absurd (true≢false (sym (c.is_tag.ensures.told (tag_is c.args.tables.now c.args.texts.now (Update table step change) c.args.bytes.now c.in_ok-fields.fields c.field_at-tag.result.now c.in_ok-fields.ensures is e c.field_at-tag.ensures)) ∙ c.if-is_tag.false))
returns-clause-told c (Snapshot table snapshot) is e =
    absurd (true≢false (sym (c.is_tag-else-is_tag.ensures.told (tag_is c.args.tables.now c.args.texts.now (Snapshot table snapshot) c.args.bytes.now c.in_ok-fields.fields c.field_at-tag.result.now c.in_ok-fields.ensures is e c.field_at-tag.ensures)) ∙ c.if-is_tag-2.false))
returns-clause-told c (Done step) is e =
    absurd (true≢false (sym (c.is_tag-else-is_tag-2.ensures.told (tag_is c.args.tables.now c.args.texts.now (Done step) c.args.bytes.now c.in_ok-fields.fields c.field_at-tag.result.now c.in_ok-fields.ensures is e c.field_at-tag.ensures)) ∙ c.if-is_tag-3.false))
returns-clause-told c (Fault fields) is e =
    c.read_fault.ensures.told fields (e ∙ append-nil (record_text (codes "fault" ∷ fields)))

pub returns-then-is_tag-3-clause-entry : goal.returns-then-is_tag-3-clause-entry
returns-then-is_tag-3-clause-entry c = c.read_done.ensures.entry c.args.tables.now c.args.texts.now

pub returns-clause-entry : goal.returns-clause-entry
returns-clause-entry c = c.read_fault.ensures.entry c.args.tables.now c.args.texts.now
