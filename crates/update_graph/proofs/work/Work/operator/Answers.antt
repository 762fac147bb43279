use Rattle.std.proofs.Common.{ap, sym, ◌∙◌, subst, true≢false}
use Rattle.tick_model.specs.Evaluation.{has_table}
use Rattle.update_graph.{specs.Stands.IsKept, specs.Tags.Kept}
use Rattle.update_graph.proofs.work.Work.operator.Goals as goal

pub unreachable-requires-in-Failed : goal.unreachable-requires-in-Failed
unreachable-requires-in-Failed c =
    let s = c.args.self.now in
    let here = subst (λ kept. IsKept s.run s.step s.node kept) c.in-Failed.is (subst (λ (t : Kept). IsKept t.run t.step t.node c.self.inside.state) c.self.view_is c.self.invariant) in
    true≢false (sym c.requires.defined ∙ ap has_table here)

pub unreachable-requires-in-Undefined : goal.unreachable-requires-in-Undefined
unreachable-requires-in-Undefined c =
    let s = c.args.self.now in
    let here = subst (λ kept. IsKept s.run s.step s.node kept) c.in-Undefined.is (subst (λ (t : Kept). IsKept t.run t.step t.node c.self.inside.state) c.self.view_is c.self.invariant) in
    true≢false (sym c.requires.defined ∙ ap has_table here)
