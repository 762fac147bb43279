use Rattle.update_graph.proofs.Numbered.{added_else, added_here}
use Rattle.update_graph.proofs.edges.add_number.Goals as goal

pub returns-clause-added : goal.returns-clause-added
returns-clause-added c = added_here c.args.lists.now.items c.args.node c.index_mut.result.now c.push.new.self c.args.number c.requires c.index_mut.ensures.value c.in_ok-push.ensures.items

pub returns-clause-others : goal.returns-clause-others
returns-clause-others c other apart = added_else c.args.lists.now.items c.args.node c.push.new.self other apart
