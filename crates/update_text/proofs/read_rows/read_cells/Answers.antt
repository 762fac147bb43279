use Rattle.std.proofs.Common.{◌≡◌, ap, sym, ◌∙◌, subst, ◌∷◌, ◌++◌, ◌+◌, [], List, ℤ, ℕ, append_assoc, arith, length, drop, take, w64, SFits, to_z-of_z, rules, ◌≤◌}
use Rattle.std.{specs.Prelude.FitsSigned, specs.List.AllByRecursion}
use Rattle.key_lists.proofs.Every.{every-append}
use Rattle.tick_model.specs.Texts.{cell_texts}
use Rattle.update_text.{specs.Reading.next_fields, proofs.ReadRows.{fit_more, next_cell}}
use Rattle.update_text.proofs.read_rows.read_cells.Goals as goal

pub loop-column-preserved : goal.loop-column-preserved
loop-column-preserved c =
    let columns = c.args.columns.now in
    let names = c.args.texts.now in
    let at = c.loop-column.column-index in
    let column = c.column-item.result in
    let cell = c.in_ok-cell.cell in
    let pushed : c.push.new.self.items ≡ c.loop-column.cells.items ++ cell ∷ [] =
    c.in_ok-push.ensures.items ∙ ap (λ (z : ℤ). c.loop-column.cells.items ++ z ∷ []) (to_z-of_z c.in_ok-cell.ensures.number) in
    let so_far = c.loop-column.invariant.row in record {
      shorter = omega (arith, c.in_ok-cell.ensures.shorter);
      row = (
        so_far.0 ++ cell ∷ [],
        pushed ∙ ap (λ (items : List ℤ). items ++ cell ∷ []) so_far.1 ∙ append_assoc c.args.cells.now.items so_far.0 (cell ∷ []),
        fit_more (length names) columns at so_far.0 cell column c.loop-column-test.true c.column-item.is so_far.2 c.in_ok-cell.ensures.fits,
        every-append (FitsSigned w64) so_far.0 (cell ∷ []) so_far.3 (c.in_ok-cell.ensures.number, tt),
      );
      told = λ row rest texts numbers fit e.
          let ahead = c.loop-column.invariant.told row rest texts numbers fit e in
          let next = next_cell names columns at ahead.0 column c.loop-column-test.true c.column-item.is ahead.2 in
          let theirs = subst (AllByRecursion (FitsSigned w64)) next.2 ahead.3 in
          let later = cell_texts names (drop (at + 1) columns) next.1 in
          let read = c.in_ok-cell.ensures.told next.0 later rest texts theirs.0 next.3 (ahead.4 ∙ ap (λ fields. next_fields fields rest) next.5) in (
            next.1,
            ap (λ (items : List ℤ). items ++ next.1) pushed
                ∙ append_assoc c.loop-column.cells.items (cell ∷ []) next.1
                ∙ ap (λ (z : ℤ). c.loop-column.cells.items ++ (z ∷ next.1)) read.0
                ∙ ap (λ (some : List ℤ). c.loop-column.cells.items ++ some) (sym next.2)
                ∙ ahead.1,
            next.4,
            theirs.1,
            read.1,
          );
    }
