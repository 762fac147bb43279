use Rattle.watched_run.proofs.steps.next_told.Given as goal

abbrev pub ghosts-message : goal.ghosts-message
ghosts-message g a = record { name = a.blank.name; parts = a.blank.parts }
