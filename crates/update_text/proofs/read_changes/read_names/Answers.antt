use Rattle.std.proofs.Common.{◌≡◌, ap, sym, ◌∙◌, subst, ◌∷◌, ◌++◌, ◌<◌, [], List, ℕ, true, false, length, map, arith, append_assoc}
use Rattle.std.{specs.List.AllByRecursion, proofs.lemmas.List.append-nil, proofs.lemmas.Option.{same_Some, none-some}}
use Rattle.key_lists.specs.Keys.{IsRising}
use Rattle.row_set.{specs.Sets.with_key, proofs.United.{with_key_rises, every-united}, proofs.Windows.rising_before}
use Rattle.tick_model.specs.Texts.{column_name}
use Rattle.update_text.{proofs.ReadColumns.{gives_both, names_ahead, names_done}, proofs.ReadRows.{gives_memory, united_behind}}
use Rattle.update_text.proofs.read_changes.read_names.Goals as goal

pub returns-in_err-rest-clause-told : goal.returns-in_err-rest-clause-told
returns-in_err-rest-clause-told c places rest distinct rising below e =
    let columns = c.args.columns.now in
    let left = c.loop-field.invariant.told places rest distinct rising below e in
    let next = names_ahead columns left.0 rest c.loop-field.rest.now left.2 (sym c.begins_with_comma.ensures ∙ c.loop-field-test.true) in
    gives_memory c.from_residual.result _ c.in_err-rest.field-0.0 c.from_residual.ensures.1 (c.in_err-rest.ensures.told (column_name columns next.0) (map (column_name columns) next.1) rest next.3)

pub returns-in-None-clause-told : goal.returns-in-None-clause-told
returns-in-None-clause-told c places rest distinct rising below e =
    let columns = c.args.columns.now in
    let left = c.loop-field.invariant.told places rest distinct rising below e in
    let next = names_ahead columns left.0 rest c.loop-field.rest.now left.2 (sym c.begins_with_comma.ensures ∙ c.loop-field-test.true) in
    let read = c.in_ok-rest.ensures.told (column_name columns next.0) (map (column_name columns) next.1) rest next.3 in
    let first = subst (AllByRecursion (λ column. column < length columns)) next.2 left.1 in
    absurd (none-some next.0 (c.in-None.ensures.told next.0 distinct first.0 (c.as_slice.ensures.value ∙ read.1)))

pub loop-field-preserved : goal.loop-field-preserved
loop-field-preserved c =
    let columns = c.args.columns.now in
    let place = c.in-Some.place in
    let chosen = c.loop-field.chosen in
    let IsThere = λ (column : ℕ). column < length columns in
    let set : c.choose.new.chosen ≡ with_key place chosen = c.choose.ensures in record {
      rising = subst IsRising (sym set) (with_key_rises place chosen c.loop-field.invariant.rising);
      there = subst (AllByRecursion IsThere) (sym set) (every-united IsThere (place ∷ []) chosen (c.in-Some.ensures.there, tt) c.loop-field.invariant.there);
      told = λ places rest distinct rising below e.
          let left = c.loop-field.invariant.told places rest distinct rising below e in
          let next = names_ahead columns left.0 rest c.loop-field.rest.now left.2 (sym c.begins_with_comma.ensures ∙ c.loop-field-test.true) in
          let read = c.in_ok-rest.ensures.told (column_name columns next.0) (map (column_name columns) next.1) rest next.3 in
          let first = subst (AllByRecursion IsThere) next.2 left.1 in
          let same = same_Some place next.0 (c.in-Some.ensures.told next.0 distinct first.0 (c.as_slice.ensures.value ∙ read.1)) in
          let whole : IsRising (chosen ++ next.0 ∷ next.1) = subst IsRising (sym left.3 ∙ ap (λ (some : List ℕ). chosen ++ some) next.2) rising in
          let under = subst (λ (k : ℕ). AllByRecursion (λ key. key < k) chosen) (sym same) (rising_before chosen next.0 next.1 whole) in (
            next.1,
            first.1,
            read.0,
            ap (λ (ks : List ℕ). ks ++ next.1) (set ∙ united_behind place (place ∷ []) chosen under (omega arith, tt) c.loop-field.invariant.rising (tt, tt))
                ∙ append_assoc chosen (place ∷ []) next.1
                ∙ ap (λ (k : ℕ). chosen ++ (k ∷ next.1)) same
                ∙ ap (λ (some : List ℕ). chosen ++ some) (sym next.2)
                ∙ left.3,
          );
    }

pub returns-clause-told : goal.returns-clause-told
returns-clause-told c places rest distinct rising below e =
    let columns = c.args.columns.now in
    let left = c.loop-field.invariant.told places rest distinct rising below e in
    let done = names_done columns left.0 rest c.loop-field.rest.now left.2 (sym c.begins_with_comma.ensures ∙ c.loop-field-test.false) in
    gives_both c.read_line_end.result (λ left. left.now ≡ rest) (c.loop-field.chosen ≡ places) (c.read_line_end.ensures.told rest done.1)
    (sym (append-nil c.loop-field.chosen) ∙ ap (λ (some : List ℕ). c.loop-field.chosen ++ some) (sym done.0) ∙ left.3)
