use Rattle.update_text.proofs.told.told_cells.Given as goal

abbrev pub ghosts-counted_cells : goal.ghosts-counted_cells
ghosts-counted_cells a = record { name = a.blank.name; parts = a.blank.parts }
