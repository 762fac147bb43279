use Rattle.std.proofs.Common.{refl, ap, sym, ◌∙◌, ◌++◌, ◌+◌, ◌-◌, ◌≤◌, ◌*◌, subst, map, length, drop, append_assoc}
use Rattle.std.specs.Prelude.{codes}
use Rattle.tick_model.specs.Texts.{record_text, records_text, row_record}
use Rattle.update_text.{specs.Snapshots.{row_told, rows_told}, proofs.ToldRows.{rows_told-step, others_fit}}
use Rattle.update_text.proofs.snapshots.push_told_rows.Goals as goal

pub loop-row-preserved : goal.loop-row-preserved
loop-row-preserved c =
    let size = length c.args.columns.now + 1 in
    let record_of = row_record (codes "w") c.args.texts.now c.args.columns.now in
    let left = c.loop-row.left.now in
    let others = records_text (map record_of (rows_told (c.args.count - (c.loop-row._row + 1)) size (drop size left))) in
    record {
      size = refl;
      enough =
          subst (λ rest. (c.args.count - (c.loop-row._row + 1)) * size ≤ length rest) (sym c.split_at.ensures.back)
          (others_fit c.args.count c.loop-row._row size left c.loop-row-test.true c.loop-row.invariant.enough);
      written =
          ap (λ rest. c.push_told_row.new.text.items ++ records_text (map record_of (rows_told (c.args.count - (c.loop-row._row + 1)) size rest))) c.split_at.ensures.back
          ∙ ap (λ text. text ++ others) (c.in_ok-push_told_row.ensures ∙ ap (λ row. c.loop-row.text.items ++ record_text (record_of (row_told row))) c.split_at.ensures.front)
          ∙ append_assoc c.loop-row.text.items _ others
          ∙ ap (λ rows. c.loop-row.text.items ++ records_text (map record_of rows)) (sym (rows_told-step c.args.count c.loop-row._row size left c.loop-row-test.true))
          ∙ c.loop-row.invariant.written;
    }
