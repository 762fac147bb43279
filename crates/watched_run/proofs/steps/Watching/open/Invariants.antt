use Rattle.watched_run.proofs.steps.Watching.open.Given as goal

abbrev pub ghosts-start : goal.ghosts-start
ghosts-start g a = record { name = a.blank.name; parts = a.blank.parts }
