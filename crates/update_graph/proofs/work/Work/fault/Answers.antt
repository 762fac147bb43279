use Rattle.std.proofs.Common.{ap, sym, ◌∙◌, subst, true≢false, ◌+◌}
use Rattle.tick_model.specs.Evaluation.{has_table}
use Rattle.update_graph.{specs.Stands.{HasStepped, IsKept, reads_of}, specs.Tags.Kept}
use Rattle.update_graph.proofs.work.Work.fault.Goals as goal

pub returns-in-Source-clause-stepped : goal.returns-in-Source-clause-stepped
returns-in-Source-clause-stepped c = λ is defined.
    let s = c.args.self.now in
    let here = subst (λ kept. IsKept s.run s.step s.node kept) c.in-Source.is (subst (λ (t : Kept). IsKept t.run t.step t.node c.self.inside.state) c.self.view_is c.self.invariant) in
    absurd (true≢false (sym is ∙ here.0))

pub returns-in-Defined-clause-stepped : goal.returns-in-Defined-clause-stepped
returns-in-Defined-clause-stepped c = λ is defined.
    let s = c.args.self.now in
    let here = subst (λ kept. IsKept s.run s.step s.node kept) c.in-Defined.is (subst (λ (t : Kept). IsKept t.run t.step t.node c.self.inside.state) c.self.view_is c.self.invariant) in
    subst (HasStepped s.run (s.step + 1) s.node) (sym (ap reads_of c.in-Defined.is) ∙ ap (λ (work : Kept). work.reads) c.self.view_is) here.1.stepped

pub returns-in-Failed-clause-stepped : goal.returns-in-Failed-clause-stepped
returns-in-Failed-clause-stepped c = λ is defined.
    let s = c.args.self.now in
    let here = subst (λ kept. IsKept s.run s.step s.node kept) c.in-Failed.is (subst (λ (t : Kept). IsKept t.run t.step t.node c.self.inside.state) c.self.view_is c.self.invariant) in
    absurd (true≢false (sym defined ∙ ap has_table here))

pub returns-in-Undefined-clause-stepped : goal.returns-in-Undefined-clause-stepped
returns-in-Undefined-clause-stepped c = λ is defined.
    let s = c.args.self.now in
    let here = subst (λ kept. IsKept s.run s.step s.node kept) c.in-Undefined.is (subst (λ (t : Kept). IsKept t.run t.step t.node c.self.inside.state) c.self.view_is c.self.invariant) in
    absurd (true≢false (sym defined ∙ ap has_table here))
