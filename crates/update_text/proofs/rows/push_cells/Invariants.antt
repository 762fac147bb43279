use Rattle.std.proofs.Common.{◌≡◌, ◌++◌, length, drop}
use Rattle.std.specs.Prelude.{flat_map}
use Rattle.tick_model.specs.Texts.{comma_before, cell_texts}
use Rattle.update_text.proofs.rows.push_cells.Given as goal

-- what is still to come stands after what was written
abbrev pub invariant-loop-column : goal.invariant-loop-column
invariant-loop-column l =
    l.text.items ++ flat_map comma_before (cell_texts l.texts (drop (length l.yielded) l.columns) (drop (length l.yielded) l.cells))
    ≡ l.fn.text.items ++ flat_map comma_before (cell_texts l.texts l.columns l.cells)
