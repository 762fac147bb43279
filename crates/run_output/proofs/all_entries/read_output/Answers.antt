use Rattle.std.proofs.Common.{◌≡◌, ap, sym, ◌∙◌, subst, ◌∷◌, ◌++◌, [], List, ℕ, false, ◌==◌, length, append_assoc}
use Rattle.std.{specs.List.AllByRecursion, proofs.lemmas.List.append-nil}
use Rattle.key_lists.proofs.Every.{every-append}
use Rattle.tick_model.specs.Texts.{records_text}
use Rattle.update_text.{specs.declared.shown.Shown.Shown, proofs.ReadRows.gives_memory}
use Rattle.run_output.{specs.declared.entry.OutputEntry.OutputEntry, specs.Entries.{IsEntry, entry_text, output_text}, specs.Splitting.{IsPart, begins_part}, proofs.EntryTexts.{fields_of, next_entry, none_left, parts_are, parts_of, tag_of, text_is, text_more}}
use Rattle.run_output.proofs.all_entries.read_output.Goals as goal

-- the first entry of an output, and what stands behind it
abbrev Begins : List Shown → List (List ℕ) → List ℕ → List ℕ → List OutputEntry → Type 0
Begins tables texts own behind todo =
    (entry : OutputEntry) × (later : List OutputEntry) × (todo ≡ entry ∷ later) × IsEntry tables texts entry × AllByRecursion (IsEntry tables texts) later
    × (own ≡ entry_text tables texts entry) × (behind ≡ output_text tables texts later)

split_at_entry : (tables : List Shown) (texts : List (List ℕ)) (bytes own behind : List ℕ) (todo : List OutputEntry) →
    ((first : List ℕ) (others : List (List ℕ)) (parts : List (List (List ℕ))) (rest : List ℕ) → AllByRecursion IsPart parts → begins_part rest ≡ false → bytes ≡ records_text ((first ∷ others) ∷ parts) ++ rest →
    (own ≡ records_text ((first ∷ others) ∷ parts)) × (behind ≡ rest)) →
    AllByRecursion (IsEntry tables texts) todo → bytes ≡ output_text tables texts todo → (length bytes == 0) ≡ false → Begins tables texts own behind todo
split_at_entry tables texts bytes own behind todo splits are e some =
    let next = next_entry tables texts todo bytes are e some in
    let entry = next.0 in
    let both = splits (tag_of entry) (fields_of tables entry) (parts_of tables texts entry) (output_text tables texts next.1) (parts_are tables texts entry) next.6 next.5 in
    (entry, next.1, next.2, next.3, next.4, both.0 ∙ sym (text_is tables texts entry next.3), both.1)

pub returns-in_err-entry-clause-told : goal.returns-in_err-entry-clause-told
returns-in_err-entry-clause-told c all are e =
    let tables = c.args.tables.now in
    let texts = c.args.texts.now in
    let same : c.as_slice.result.now ≡ tables = c.as_slice.ensures in
    let left = c.loop-rest.invariant.told all are e in
    let next = split_at_entry tables texts c.loop-rest.rest.now c.split_entry.result.0.now c.split_entry.result.1.now left.0 c.split_entry.ensures.told left.1 left.2 (sym c.is_empty.ensures ∙ c.loop-rest-test.true) in
    gives_memory c.from_residual.result _ c.in_err-entry.field-0.0 c.from_residual.ensures.1
    (c.in_err-entry.ensures.told next.0 (subst (λ (some : List Shown). IsEntry some texts next.0) (sym same) next.3)
    (subst (λ (some : List Shown). c.split_entry.result.0.now ≡ entry_text some texts next.0) (sym same) next.5))

pub loop-rest-preserved : goal.loop-rest-preserved
loop-rest-preserved c =
    let tables = c.args.tables.now in
    let texts = c.args.texts.now in
    let same : c.as_slice.result.now ≡ tables = c.as_slice.ensures in
    let entries = c.loop-rest.entries in
    let entry = c.in_ok-entry.entry in
    let pushed : c.push.new.self ≡ entries ++ entry ∷ [] = c.in_ok-push.ensures.ok in
    let is = subst (λ (some : List Shown). IsEntry some texts entry) same c.in_ok-entry.ensures.entry in
    let own = subst (λ (some : List Shown). c.split_entry.result.0.now ≡ entry_text some texts entry) same c.in_ok-entry.ensures.text in record {
      entries = subst (AllByRecursion (IsEntry tables texts)) (sym pushed) (every-append (IsEntry tables texts) entries (entry ∷ []) c.loop-rest.invariant.entries (is, tt));
      text =
          subst (λ (some : List OutputEntry). c.args.bytes.now ≡ output_text tables texts some ++ c.split_entry.result.1.now) (sym pushed)
          (text_more tables texts entries entry c.args.bytes.now c.loop-rest.rest.now c.split_entry.result.0.now c.split_entry.result.1.now c.loop-rest.invariant.text c.split_entry.ensures.both own);
      told = λ all are e.
          let left = c.loop-rest.invariant.told all are e in
          let next = split_at_entry tables texts c.loop-rest.rest.now c.split_entry.result.0.now c.split_entry.result.1.now left.0 c.split_entry.ensures.told left.1 left.2 (sym c.is_empty.ensures ∙ c.loop-rest-test.true) in
          let read : entry ≡ next.0 =
          c.in_ok-entry.ensures.told next.0 (subst (λ (some : List Shown). IsEntry some texts next.0) (sym same) next.3)
          (subst (λ (some : List Shown). c.split_entry.result.0.now ≡ entry_text some texts next.0) (sym same) next.5) in (
            next.1,
            next.4,
            next.6,
            ap (λ (some : List OutputEntry). some ++ next.1) pushed
                ∙ append_assoc entries (entry ∷ []) next.1
                ∙ ap (λ (first : OutputEntry). entries ++ (first ∷ next.1)) read
                ∙ ap (λ (some : List OutputEntry). entries ++ some) (sym next.2)
                ∙ left.3,
          );
    }

pub returns-clause-told : goal.returns-clause-told
returns-clause-told c all are e =
    let left = c.loop-rest.invariant.told all are e in
    let none = none_left c.args.tables.now c.args.texts.now left.0 c.loop-rest.rest.now left.1 left.2 (sym c.is_empty.ensures ∙ c.loop-rest-test.false) in
    sym (append-nil c.loop-rest.entries) ∙ ap (λ (some : List OutputEntry). c.loop-rest.entries ++ some) (sym none) ∙ left.3
