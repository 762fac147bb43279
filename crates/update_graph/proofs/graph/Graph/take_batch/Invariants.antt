use Rattle.update_graph.proofs.graph.Graph.take_batch.Given as goal

abbrev pub ghosts-changes_of : goal.ghosts-changes_of
ghosts-changes_of a = record { name = a.blank.name; parts = a.blank.parts }
