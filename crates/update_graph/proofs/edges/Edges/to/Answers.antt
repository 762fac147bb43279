use Rattle.std.proofs.Common.{◌<◌, ◌∙◌, ap, sym, subst, length}
use mathlib.Core.Option.{some, some-injective}
use lib.ListN.{get_elem?}
use Rattle.graph_words.specs.declared.graph.Edge.{Edge}
use Rattle.update_graph.proofs.PlanEdges.{item_there}
use Rattle.update_graph.proofs.edges.Edges.to.Goals as goal

pub returns : goal.returns
returns c x there =
    let edges = c.self.inside.all.items in
    let less : c.args.number < length edges = subst (λ l. c.args.number < length l) (sym c.self.view_is) c.requires in
    let own = item_there edges c.args.number c.index.result.now less ∙ ap some (sym c.index.ensures) in
    ap (λ (z : Edge). z.to) (some-injective c.index.result.now x (sym own ∙ ap (λ l. get_elem? l c.args.number) c.self.view_is ∙ there))
