use Rattle.update_graph.proofs.graph.Graph.cycle.Given as goal

abbrev pub ghosts-advance_all : goal.ghosts-advance_all
ghosts-advance_all g a = record { name = a.blank.name; parts = a.blank.parts }
