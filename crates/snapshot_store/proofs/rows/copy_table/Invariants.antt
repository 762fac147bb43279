use Rattle.snapshot_store.proofs.rows.copy_table.Given as goal

abbrev pub ghosts-copy_counting : goal.ghosts-copy_counting
ghosts-copy_counting a = record { name = a.blank.name; parts = a.blank.parts }
