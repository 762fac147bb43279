use Rattle.std.proofs.Common.{◌≡◌, ap, sym, ◌∙◌, subst, ◌+◌, ◌*◌, ◌≤◌, arith, List, ◌∷◌, drop, length}
use Rattle.std.{proofs.lemmas.List.length-map, proofs.lemmas.List.Sums.sum_by-cons}
use Rattle.tick_model.specs.declared.table.PlainRow.{PlainRow}
use Rattle.tick_table.specs.Ticking.{Ticking}
use Rattle.table_operator.specs.Inputs.{tables}
use Rattle.merge_op.{specs.Merged.rows_in, proofs.Sharing.{no_tables, table_at, tables_from}}
use Rattle.merge_op.proofs.merging.rows_of.Goals as goal

pub overflow_add-total : goal.overflow_add-total
overflow_add-total c =
    let t = c.deref.result.now in
    let few : length t.new.rows ≤ 4194304 = table_at (λ (t : Ticking). length t.new.rows ≤ 4194304) c.args.inputs.now c.loop-input.input-index c.input-item.result t c.requires.few c.loop-input-test.true c.input-item.is c.deref.ensures in
    let count : c.len-count.result ≡ length t.new.rows = c.len-count.ensures.count ∙ ap length c.rows.ensures.keys ∙ length-map t.new.rows (λ (row : PlainRow). row.key) in
    omega (arith, few, count, c.loop-input.invariant.few, c.requires.count, c.loop-input-test.true)

pub loop-input-preserved : goal.loop-input-preserved
loop-input-preserved c =
    let t = c.deref.result.now in
    let rest = tables (drop (c.loop-input.input-index + 1) c.args.inputs.now) in
    let few : length t.new.rows ≤ 4194304 = table_at (λ (t : Ticking). length t.new.rows ≤ 4194304) c.args.inputs.now c.loop-input.input-index c.input-item.result t c.requires.few c.loop-input-test.true c.input-item.is c.deref.ensures in
    let count : c.len-count.result ≡ length t.new.rows = c.len-count.ensures.count ∙ ap length c.rows.ensures.keys ∙ length-map t.new.rows (λ (row : PlainRow). row.key) in
    let counted : c.loop-input.total + rows_in (t ∷ rest) ≡ rows_in (tables c.args.inputs.now) =
    subst (λ (rest : List Ticking). c.loop-input.total + rows_in rest ≡ rows_in (tables c.args.inputs.now)) (tables_from c.args.inputs.now c.loop-input.input-index c.input-item.result t c.loop-input-test.true c.input-item.is c.deref.ensures) c.loop-input.invariant.counted in
    record {
      counted = omega (arith, counted, count, sum_by-cons (λ (t : Ticking). length t.new.rows) t rest);
      few = omega (arith, few, count, c.loop-input.invariant.few);
    }
