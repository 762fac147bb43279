use Rattle.std.proofs.Common.{sym, ◌∙◌, subst, ℕ, ◌+◌, not}
use Rattle.std.specs.Ordering.{int_eq}
use Rattle.key_lists.specs.Keys.{IsRising}
use Rattle.row_set.proofs.United.{with_key_rises}
use Rattle.tick_model.specs.Tables.{cell}
use Rattle.row_changes.{proofs.Differing.{AreThose, column_more, column_passed}, proofs.told.with_differing.Goals.{then-differ_in, else-differ_in}}
use Rattle.row_changes.proofs.told.with_differing.Goals as goal

pub loop-column-preserved : goal.loop-column-preserved
loop-column-preserved c =
    let differ = λ (column : ℕ). not (int_eq (cell c.args.before.now column) (cell c.args.now.now column)) in
    elim c.if-differ_in.branch [
      | then-differ_in w ↦ record {
        rising = subst IsRising (sym (w.columns-is ∙ w.with-columns.ensures)) (with_key_rises c.loop-column.column c.loop-column.columns c.loop-column.invariant.rising);
        columns = subst (AreThose c.args.columns differ (c.loop-column.column + 1)) (sym (w.columns-is ∙ w.with-columns.ensures)) (column_more c.args.columns c.loop-column.columns differ c.loop-column.column c.loop-column.invariant.columns (sym c.differ_in.ensures ∙ w.if-differ_in.true));
      }
      | else-differ_in w ↦ record {
        rising = subst IsRising (sym w.columns-is) c.loop-column.invariant.rising;
        columns = subst (AreThose c.args.columns differ (c.loop-column.column + 1)) (sym w.columns-is) (column_passed c.args.columns c.loop-column.columns differ c.loop-column.column c.loop-column.invariant.columns (sym c.differ_in.ensures ∙ w.if-differ_in.false));
      }
    ]
