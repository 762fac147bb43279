use Rattle.update_graph.proofs.step_work.StepWorkNodeWorkWorkShare.work.Given as goal

abbrev pub ghosts-advanced : goal.ghosts-advanced
ghosts-advanced g a = record { name = a.blank.name; parts = a.blank.parts }
