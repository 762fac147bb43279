use Rattle.std.proofs.Common.{◌≡◌, sym, ◌∙◌, subst, arith, ◌+◌, length}
use Rattle.key_lists.specs.Keys.{IsRising}
use Rattle.row_changes.proofs.Differing.{AreThose, column_more, column_passed}
use Rattle.row_set.proofs.United.{with_key_rises}
use Rattle.row_ops.{specs.Viewer.with_values, proofs.Viewed.{column_known, differs_behind, value_column}, proofs.view_op.with_differing.Goals.{then-not-has+then-differs, else-not-has, else-not-has-via-then-not-has+else-differs, else-not-has-via-else-not-has}}
use Rattle.row_ops.proofs.view_op.with_differing.Goals as goal

pub loop-place-preserved : goal.loop-place-preserved
loop-place-preserved c =
    let before = c.args.before.now in
    let differ = differs_behind (length before) (with_values c.args.exprs.now before) c.args.now.now in
    let place = c.loop-place.place in
    let column = length before + place in
    let set = c.loop-place.columns in
    let next : column + 1 ≡ length before + (place + 1) = omega arith in
    let value = value_column c.args.exprs.now before c.args.now.now place c.index-exprs-place.result c.loop-place-test.true c.index-exprs-place.is in
    elim c.if-not-has.branch [
      | then-not-has+then-differs w ↦ record {
        rising = subst IsRising (sym (w.columns-is ∙ w.with-columns.ensures)) (with_key_rises column set c.loop-place.invariant.rising);
        columns = subst (λ n. AreThose c.args.columns differ n c.if-not-has.columns) next (subst (AreThose c.args.columns differ (column + 1)) (sym (w.columns-is ∙ w.with-columns.ensures)) (column_more c.args.columns set differ column c.loop-place.invariant.columns (sym value ∙ sym w.differs.ensures ∙ w.if-differs.true)));
      }
      | else-not-has w ↦ record {
        rising = subst IsRising (sym w.columns-is) c.loop-place.invariant.rising;
        columns = subst (λ n. AreThose c.args.columns differ n c.if-not-has.columns) next (subst (AreThose c.args.columns differ (column + 1)) (sym w.columns-is) (elim w.else-not-has.branch [
          | else-not-has-via-then-not-has+else-differs w' ↦ column_passed c.args.columns set differ column c.loop-place.invariant.columns (sym value ∙ sym w'.differs.ensures ∙ w'.if-differs.false)
          | else-not-has-via-else-not-has w' ↦ column_known c.args.columns set differ column c.loop-place.invariant.columns (sym c.has.ensures ∙ w'.if-not-has.false)
        ]));
      }
    ]
