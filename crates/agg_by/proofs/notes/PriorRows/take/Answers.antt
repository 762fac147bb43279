use Rattle.std.proofs.Common.{◌≡◌, ap, sym, ◌∙◌, subst, true, ◌++◌, ℕ, ℤ, List, length}
use Rattle.std.specs.List.{AllByRecursion}
use Rattle.key_lists.{specs.Keys.is_among, proofs.Every.every_weaker}
use Rattle.row_changes.specs.Parts.{cells_under}
use Rattle.tick_model.specs.Tables.{cells_at, keys}
use Rattle.tick_table.proofs.WholeRows.{row_whole}
use Rattle.agg_by.proofs.notes.PriorRows.take.Goals as goal

pub returns-clause-noted : goal.returns-clause-noted
returns-clause-noted g c =
    let table = c.args.table.now.new in record {
      cells = c.in_ok-all_now.ensures.cells ∙ ap (λ (cells : List ℤ). cells ++ cells_under table c.args.keys) (c.in_ok-reserve.ensures.items ∙ c.clear.ensures.items);
      whole = subst (λ (width : ℕ). AllByRecursion (λ key. length (cells_at key table.rows) ≡ width) c.args.keys) (sym c.width-width.ensures.now)
          (every_weaker (λ key. is_among key (keys table.rows) ≡ true) (λ key. length (cells_at key table.rows) ≡ table.width) c.args.keys (λ key. row_whole key table c.requires.table) c.requires.there);
    }
