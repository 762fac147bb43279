use Rattle.std.proofs.Common.{ap, ap₂, sym, ◌∙◌, subst, cond, ℕ, ◌+◌, List, length, ltb, ◌<◌, ◌^◌, arith}
use Rattle.std.specs.List.{position_or_len}
use Rattle.tick_model.{specs.declared.update.ShiftRange.ShiftRange, specs.Shifts.holds}
use Rattle.source_changes.proofs.records.shift_record_of.Goals as goal

pub overflow_add-result-3 : goal.overflow_add-result-3
overflow_add-result-3 c =
    let less : c.args.block.now.number + 1 + c.len.result + c.broken_place-place.result < 2 ^ 64 =
    subst (λ n. n < 2 ^ 64)
    (sym (ap₂ (λ (removed place : ℕ). c.args.block.now.number + 1 + removed + place) c.len.ensures
    (c.broken_place-place.ensures
    ∙ ap (λ (shifts : List ShiftRange). cond (ltb (position_or_len (λ range. holds range c.args.second) shifts) (length shifts)) (position_or_len (λ range. holds range c.args.second) shifts) (position_or_len (λ range. holds range c.args.first) shifts)) c.as_slice.ensures)))
    c.requires in
    omega (arith, less)

pub returns : goal.returns
returns c =
    ap₂ (λ (removed place : ℕ). c.args.block.now.number + 1 + removed + place) c.len.ensures
    (c.broken_place-place.ensures
    ∙ ap (λ (shifts : List ShiftRange). cond (ltb (position_or_len (λ range. holds range c.args.second) shifts) (length shifts)) (position_or_len (λ range. holds range c.args.second) shifts) (position_or_len (λ range. holds range c.args.first) shifts)) c.as_slice.ensures)
