use Rattle.std.proofs.Common.{◌≡◌, refl, ap, sym, ◌∙◌, subst, ◌∷◌, ◌++◌, ◌^◌, [], List, ℕ, false, append_assoc, map, rules}
use Rattle.std.{specs.Fmt.{decimal, signed_decimal}, proofs.lemmas.List.append-nil}
use Rattle.tick_model.{specs.declared.update.ShiftRange.ShiftRange, specs.Printable.{IsShift, IsShiftRange}, specs.Texts.{records_text, shift_record}}
use Rattle.update_text.{specs.Reading.{has_tag, next_fields}, proofs.Backwards.rest_same, proofs.ReadChanges.shift_front, proofs.ReadRows.{first_ahead, gives_memory, none_ahead, tagged_here, tagged_text}}
use Rattle.update_text.proofs.read_changes.read_shifts.Goals as goal

abbrev behind_begin : ShiftRange → List (List ℕ)
behind_begin range = decimal range.end ∷ signed_decimal range.delta ∷ []

pub returns-in_err-range : goal.returns-in_err-range
returns-in_err-range c ranges rest shift ahead =
    let left = c.loop-fields.invariant ranges rest shift ahead in
    let first = first_ahead shift_record (IsShiftRange (2 ^ 62)) 115 left.0 rest c.loop-fields.rest.now left.1 c.in-Some.ensures.0 in
    let behind = records_text (map shift_record first.1) ++ rest in
    let same = rest_same 115 115 c.in-Some.fields.now (next_fields (decimal first.0.begin ∷ behind_begin first.0) behind) (sym c.in-Some.ensures.1 ∙ first.4 ∙ tagged_text 115 (decimal first.0.begin) (behind_begin first.0) behind refl) in
    gives_memory c.from_residual.result _ c.in_err-range.field-0.0 c.from_residual.ensures.1 (c.in_err-range.ensures.told first.0 behind first.3 same)

pub returns-in_err-put_shift : goal.returns-in_err-put_shift
returns-in_err-put_shift c ranges rest shift ahead =
    let left = c.loop-fields.invariant ranges rest shift ahead in
    let first = first_ahead shift_record (IsShiftRange (2 ^ 62)) 115 left.0 rest c.loop-fields.rest.now left.1 c.in-Some.ensures.0 in
    let behind = records_text (map shift_record first.1) ++ rest in
    let same = rest_same 115 115 c.in-Some.fields.now (next_fields (decimal first.0.begin ∷ behind_begin first.0) behind) (sym c.in-Some.ensures.1 ∙ first.4 ∙ tagged_text 115 (decimal first.0.begin) (behind_begin first.0) behind refl) in
    let read = c.in_ok-range.ensures.told first.0 behind first.3 same in
    let whole : IsShift (c.loop-fields.shifts ++ first.0 ∷ first.1) = subst IsShift (sym left.2 ∙ ap (λ (some : List ShiftRange). c.loop-fields.shifts ++ some) first.2) shift in
    let front = subst (λ (range : ShiftRange). IsShift (c.loop-fields.shifts ++ range ∷ [])) (sym read.0) (shift_front c.loop-fields.shifts first.0 first.1 whole) in
    gives_memory c.from_residual-in_err-put_shift.result _ c.in_err-put_shift.field-0.0 c.from_residual-in_err-put_shift.ensures.1
    (c.in_err-put_shift.ensures.told front (subst (IsShiftRange (2 ^ 62)) (sym read.0) first.3))

pub loop-fields-preserved : goal.loop-fields-preserved
loop-fields-preserved c ranges rest shift ahead =
    let left = c.loop-fields.invariant ranges rest shift ahead in
    let first = first_ahead shift_record (IsShiftRange (2 ^ 62)) 115 left.0 rest c.loop-fields.rest.now left.1 c.in-Some.ensures.0 in
    let behind = records_text (map shift_record first.1) ++ rest in
    let same = rest_same 115 115 c.in-Some.fields.now (next_fields (decimal first.0.begin ∷ behind_begin first.0) behind) (sym c.in-Some.ensures.1 ∙ first.4 ∙ tagged_text 115 (decimal first.0.begin) (behind_begin first.0) behind refl) in
    let read = c.in_ok-range.ensures.told first.0 behind first.3 same in (
      first.1,
      record { fit = first.5; told = read.1; ends = first.6 },
      ap (λ (some : List ShiftRange). some ++ first.1) c.in_ok-put_shift.ensures.put
          ∙ append_assoc c.loop-fields.shifts (c.in_ok-range.range ∷ []) first.1
          ∙ ap (λ (range : ShiftRange). c.loop-fields.shifts ++ (range ∷ first.1)) read.0
          ∙ ap (λ (some : List ShiftRange). c.loop-fields.shifts ++ some) (sym first.2)
          ∙ left.2,
    )

pub returns : goal.returns
returns c ranges rest shift ahead =
    let left = c.loop-fields.invariant ranges rest shift ahead in
    let absent : has_tag 115 c.loop-fields.rest.now ≡ false = search rules in
    let none = none_ahead shift_record (IsShiftRange (2 ^ 62)) 115 left.0 rest c.loop-fields.rest.now (λ range u. tagged_here 115 (decimal range.begin) (behind_begin range) u refl) left.1 absent in (
      none.1,
      sym (append-nil c.loop-fields.shifts) ∙ ap (λ (some : List ShiftRange). c.loop-fields.shifts ++ some) (sym none.0) ∙ left.2,
    )
