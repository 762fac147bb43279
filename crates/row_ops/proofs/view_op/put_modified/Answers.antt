use Rattle.std.proofs.Common.{◌≡◌, ap, sym, ◌∙◌, subst, arith, rules, append-nil, ◌+◌, ◌<◌, ◌≤◌, ◌&&◌, ◌||◌, List, length}
use Rattle.std.{specs.List.{AllByRecursion, list_any}, specs.Prelude.nat_lt, proofs.lemmas.List.take_all}
use Rattle.key_lists.specs.Keys.{IsRising, is_among}
use Rattle.row_changes.proofs.Comparing.{behind, column_end, length-pairs_of}
use Rattle.shift_data.specs.Moves.{pairs_of}
use Rattle.shown_rows.proofs.Restricted.{modified_even}
use Rattle.table_update.specs.Kept.{old_modified}
use Rattle.tick_model.{specs.declared.update.KeyPair.KeyPair, specs.Formulas.IsWithin, specs.Tables.keys, specs.Updates.Update}
use Rattle.row_ops.{specs.Viewer.with_values, proofs.Viewed.{cells_told, column_told, columns_rise, columns_viewed, modified_there, value_differs}}
use Rattle.row_ops.proofs.view_op.put_modified.Goals as goal

pub loop-place-init : goal.loop-place-init
loop-place-init g c =
    let t = c.args.input.now in
    let told = c.copy-columns.ensures ∙ c.columns.ensures ∙ ap (λ (update : Update). update.columns) c.update.ensures in record {
      cells = sym (append-nil c.args.cells.now.items);
      rising = subst IsRising (sym told) (columns_rise c.args.exprs.now t c.requires.exact);
      columns = λ column. ap (is_among column) told ∙ column_end (is_among column t.update.columns) (nat_lt column (t.new.width + length c.args.exprs.now));
      reads = omega arith;
    }

pub put_row-requires : goal.put_row-requires
put_row-requires g c = subst (λ width. AllByRecursion (IsWithin width) c.args.exprs.now) (sym c.modified_row.ensures.whole) c.requires.within

pub with_differing-columns-requires-clause-within : goal.with_differing-columns-requires-clause-within
with_differing-columns-requires-clause-within g c = subst (λ width. AllByRecursion (IsWithin width) c.args.exprs.now) (sym (c.modified_row_before-before.ensures.whole ∙ sym c.requires.exact.tick.one_width)) c.requires.within

pub loop-place-preserved : goal.loop-place-preserved
loop-place-preserved g c =
    let t = c.args.input.now in
    let e = c.requires.exact in
    let exprs = c.args.exprs.now in
    let place = c.loop-place.place in
    let within : place < length t.update.modified = search rules in
    let others = c.loop-place.cells.items in
    let row = with_values exprs c.modified_row.result.now in
    let now : c.split_at.result.1.now ≡ row = behind others row c.deref.result.now c.split_at.result.1.now c.len-start.result (c.deref.ensures.value ∙ c.in_ok-put_row.ensures) (omega (arith, c.len-start.ensures)) c.split_at.ensures.back in record {
      cells = cells_told exprs t.new t.update.modified place c.args.cells.now.items others c.put_row.new.cells.items c.modified_row.result.now (modified_there exprs t e) within c.modified_row.ensures.cells c.loop-place.invariant.cells c.in_ok-put_row.ensures;
      rising = c.with_differing-columns.ensures.rising;
      columns = λ column.
          column_told exprs t e place c.modified_row_before-before.result.now c.split_at.result.1.now within c.modified_row_before-before.ensures.cells (now ∙ ap (with_values exprs) c.modified_row.ensures.cells) column
          (is_among column t.update.columns) (is_among column c.loop-place.columns) (is_among column c.with_differing-columns.result) (c.loop-place.invariant.columns column) (c.with_differing-columns.ensures.columns column);
      reads = omega (arith, c.loop-place.invariant.reads, c.modified_row.ensures.reads, c.modified_row_before-before.ensures.reads, e.tick.one_width);
    }

pub returns-clause-columns : goal.returns-clause-columns
returns-clause-columns g c column =
    let t = c.args.input.now in
    let e = c.requires.exact in
    let exprs = c.args.exprs.now in
    let pairs = pairs_of (old_modified (keys t.old.rows) t.update) t.update.modified in
    let end : length pairs ≡ length t.update.modified = length-pairs_of (old_modified (keys t.old.rows) t.update) t.update.modified (modified_even t e) in
    let over : length t.update.modified ≤ c.loop-place.place = search rules in
    c.loop-place.invariant.columns column
    ∙ ap (λ (some : List KeyPair). is_among column t.update.columns || (nat_lt column (t.new.width + length exprs) && list_any (value_differs exprs t column) some)) (take_all c.loop-place.place pairs (omega (arith, end, over)))
    ∙ columns_viewed exprs t e column
