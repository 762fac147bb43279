use Rattle.update_graph.proofs.graph.Graph.start.Given as goal

abbrev pub ghosts-open_all : goal.ghosts-open_all
ghosts-open_all a = record { name = a.blank.name; parts = a.blank.parts }
