use Rattle.std.proofs.Common.{sym, ap, ◌∙◌, arith, ◌++◌, ◌+◌}
use Rattle.key_lists.specs.Keys.{without}
use Rattle.shift_data.{specs.Moves.unapplied, specs.Parts.from_on, proofs.Asked.{asked_more, not_asked_step}, proofs.Keys.from_none, proofs.Kept.kept_set, proofs.unapply.unapplied.Goals.{then-part+in_ok-insert_range, else-part}}
use Rattle.shift_data.proofs.unapply.unapplied.Goals as goal

pub loop-part-init : goal.loop-part-init
loop-part-init c = (
  omega arith,
  ap (λ keys. keys ++ unapplied c.args.shifts.now (from_on 0 (without c.args.left_out.now c.args.keys.now)) c.args.after.now) c.in_ok-asked.ensures
      ∙ ap (λ keys. unapplied c.args.shifts.now keys c.args.after.now) (from_none (without c.args.left_out.now c.args.keys.now)),
)

pub loop-part-preserved : goal.loop-part-preserved
loop-part-preserved c =
    let part = c.in-Some.part in
    let is = c.in-Some.ensures.part in
    let rest = unapplied c.args.shifts.now (from_on (part.last + 1) (without c.args.left_out.now c.args.keys.now)) c.args.after.now in (
      omega (arith, is.small),
      elim c.if-part.branch [
        | then-part+in_ok-insert_range w ↦
            ap (λ keys. keys ++ rest) (w.asked-is ∙ w.in_ok-insert_range.ensures.ok)
            ∙ asked_more c.args.shifts.now (without c.args.left_out.now c.args.keys.now) c.args.after.now c.loop-part.asked c.loop-part.from part (kept_set c.args.left_out.now c.args.keys.now c.asked_from.ensures.keys) is w.if-part.true c.loop-part.invariant.1
        | else-part w ↦
            ap (λ keys. keys ++ rest) w.asked-is
            ∙ ap (λ keys. c.loop-part.asked ++ keys) (sym (not_asked_step c.args.shifts.now (without c.args.left_out.now c.args.keys.now) c.args.after.now c.loop-part.from part (kept_set c.args.left_out.now c.args.keys.now c.asked_from.ensures.keys) is w.if-part.false))
            ∙ c.loop-part.invariant.1
      ],
    )
