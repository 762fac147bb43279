use Rattle.std.proofs.Common.{◌≡◌, refl, ap, sym, ◌∙◌, subst, ◌∷◌, ◌++◌, ◌+◌, ◌-◌, ◌<◌, [], List, ℕ, false, append_assoc, map, rules, arith}
use Rattle.std.{specs.Prelude.flat_map, specs.Fmt.decimal, specs.List.{AllByRecursion, range_with_len}, proofs.lemmas.List.append-nil}
use Rattle.key_lists.specs.Keys.{IsRising}
use Rattle.row_set.{specs.Ranges.keys_from, proofs.Windows.rising_before}
use Rattle.tick_model.specs.Texts.{records_text, removed_record}
use Rattle.update_text.{specs.Reading.{has_tag, is_run, next_fields, run_keys}, proofs.Backwards.rest_same, proofs.ReadChanges.run_first, proofs.ReadRows.{first_ahead, gives_memory, none_ahead, tagged_here, tagged_text}}
use Rattle.update_text.proofs.read_changes.read_removed.Goals as goal

abbrev all_keys : List (ℕ × ℕ) → List ℕ
all_keys = flat_map run_keys

pub returns-in_err-first : goal.returns-in_err-first
returns-in_err-first c runs rest rising ahead =
    let left = c.loop-fields.invariant runs rest rising ahead in
    let first = first_ahead removed_record is_run 114 left.0 rest c.loop-fields.rest.now left.1 c.in-Some.ensures.0 in
    let behind = records_text (map removed_record first.1) ++ rest in
    let same = rest_same 114 114 c.in-Some.fields.now (next_fields (decimal first.0.0 ∷ decimal first.0.1 ∷ []) behind) (sym c.in-Some.ensures.1 ∙ first.4 ∙ tagged_text 114 (decimal first.0.0) (decimal first.0.1 ∷ []) behind refl) in
    gives_memory c.from_residual.result _ c.in_err-first.field-0.0 c.from_residual.ensures.1
    (c.in_err-first.ensures.told first.0.0 first.0.1 behind (omega (arith, first.3.0, first.3.1)) (omega (arith, first.3.1)) same)

pub returns-in_err-put_last : goal.returns-in_err-put_last
returns-in_err-put_last c runs rest rising ahead =
    let left = c.loop-fields.invariant runs rest rising ahead in
    let first = first_ahead removed_record is_run 114 left.0 rest c.loop-fields.rest.now left.1 c.in-Some.ensures.0 in
    let behind = records_text (map removed_record first.1) ++ rest in
    let same = rest_same 114 114 c.in-Some.fields.now (next_fields (decimal first.0.0 ∷ decimal first.0.1 ∷ []) behind) (sym c.in-Some.ensures.1 ∙ first.4 ∙ tagged_text 114 (decimal first.0.0) (decimal first.0.1 ∷ []) behind refl) in
    let read = c.in_ok-first.ensures.told first.0.0 first.0.1 behind (omega (arith, first.3.0, first.3.1)) (omega (arith, first.3.1)) same in
    let later = range_with_len (first.0.0 + 1) (first.0.1 - first.0.0) ++ all_keys first.1 in
    let whole : IsRising (c.loop-fields.keys ++ first.0.0 ∷ later) =
    subst IsRising (
    sym left.2
    ∙ ap (λ (some : List (ℕ × ℕ)). c.loop-fields.keys ++ all_keys some) first.2
    ∙ ap (λ (ks : List ℕ). c.loop-fields.keys ++ (ks ++ all_keys first.1)) (run_first first.0.0 first.0.1 first.3.0)
    ) rising in
    let below = rising_before c.loop-fields.keys first.0.0 later whole in
    gives_memory c.from_residual-in_err-put_last.result _ c.in_err-put_last.field-0.0 c.from_residual-in_err-put_last.ensures.1
    (c.in_err-put_last.ensures.told (omega (arith, read.0, read.1, first.3.0)) (omega (arith, read.1, first.3.1)) (subst (λ (k : ℕ). AllByRecursion (λ key. key < k) c.loop-fields.keys) (sym read.0) below))

pub loop-fields-preserved : goal.loop-fields-preserved
loop-fields-preserved c runs rest rising ahead =
    let left = c.loop-fields.invariant runs rest rising ahead in
    let first = first_ahead removed_record is_run 114 left.0 rest c.loop-fields.rest.now left.1 c.in-Some.ensures.0 in
    let behind = records_text (map removed_record first.1) ++ rest in
    let same = rest_same 114 114 c.in-Some.fields.now (next_fields (decimal first.0.0 ∷ decimal first.0.1 ∷ []) behind) (sym c.in-Some.ensures.1 ∙ first.4 ∙ tagged_text 114 (decimal first.0.0) (decimal first.0.1 ∷ []) behind refl) in
    let read = c.in_ok-first.ensures.told first.0.0 first.0.1 behind (omega (arith, first.3.0, first.3.1)) (omega (arith, first.3.1)) same in (
      first.1,
      record { fit = first.5; told = read.2; ends = first.6 },
      ap (λ (ks : List ℕ). ks ++ all_keys first.1) c.in_ok-put_last.ensures.put
          ∙ append_assoc c.loop-fields.keys (keys_from c.in_ok-first.first c.in_ok-first.last) (all_keys first.1)
          ∙ ap (λ (n : ℕ). c.loop-fields.keys ++ (keys_from n c.in_ok-first.last ++ all_keys first.1)) read.0
          ∙ ap (λ (n : ℕ). c.loop-fields.keys ++ (keys_from first.0.0 n ++ all_keys first.1)) read.1
          ∙ ap (λ (some : List (ℕ × ℕ)). c.loop-fields.keys ++ all_keys some) (sym first.2)
          ∙ left.2,
    )

pub returns : goal.returns
returns c runs rest rising ahead =
    let left = c.loop-fields.invariant runs rest rising ahead in
    let absent : has_tag 114 c.loop-fields.rest.now ≡ false = search rules in
    let none = none_ahead removed_record is_run 114 left.0 rest c.loop-fields.rest.now (λ run u. tagged_here 114 (decimal run.0) (decimal run.1 ∷ []) u refl) left.1 absent in (
      none.1,
      sym (append-nil c.loop-fields.keys) ∙ ap (λ (some : List (ℕ × ℕ)). c.loop-fields.keys ++ all_keys some) (sym none.0) ∙ left.2,
    )
