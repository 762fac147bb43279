use Rattle.std.proofs.Common.{ap, sym, ◌∙◌, subst, true≢false, ◌<◌, length}
use Rattle.std.{proofs.lemmas.Bool.not-false, specs.Arc.arc_value}
use Rattle.tick_model.specs.Evaluation.{has_table, is_source}
use Rattle.tick_table.specs.Ticking.{Ticking}
use Rattle.update_graph.{specs.declared.work.LiveNode.LiveNode, specs.Stands.IsKept, specs.Tags.{Kept, node_at}, proofs.Sweeping.{place_there, source_shown}}
use Rattle.update_graph.proofs.work.Work.table.Goals as goal

pub bounds-sources-place : goal.bounds-sources-place
bounds-sources-place c =
    let s = c.args.self.now in
    let here = subst (λ kept. IsKept s.run s.step s.node kept) c.in-Source.is (subst (λ (t : Kept). IsKept t.run t.step t.node c.self.inside.state) c.self.view_is c.self.invariant) in
    subst (λ k. k < length c.args.sources.now) (sym here.2)
    (place_there s.run s.step c.requires.entered c.args.sources.now c.requires.sources s.node c.requires.node (not-false (is_source (node_at s.run s.node)) here.0))

pub returns-in-Source : goal.returns-in-Source
returns-in-Source c =
    let s = c.args.self.now in
    let here = subst (λ kept. IsKept s.run s.step s.node kept) c.in-Source.is (subst (λ (t : Kept). IsKept t.run t.step t.node c.self.inside.state) c.self.view_is c.self.invariant) in
    source_shown s.run s.step c.requires.entered c.args.sources.now c.requires.sources s.node c.requires.node (not-false (is_source (node_at s.run s.node)) here.0) _ c.index-sources-place.result here.2 c.index-sources-place.is

pub returns-in-Defined : goal.returns-in-Defined
returns-in-Defined c =
    let s = c.args.self.now in
    ap (λ (ready : LiveNode). arc_value {X = Ticking} ready.table) c.deref.ensures
    ∙ (subst (λ kept. IsKept s.run s.step s.node kept) c.in-Defined.is (subst (λ (t : Kept). IsKept t.run t.step t.node c.self.inside.state) c.self.view_is c.self.invariant)).2

pub unreachable-requires : goal.unreachable-requires
unreachable-requires c =
    let s = c.args.self.now in
    let here = subst (λ kept. IsKept s.run s.step s.node kept) c.in-Failed.is (subst (λ (t : Kept). IsKept t.run t.step t.node c.self.inside.state) c.self.view_is c.self.invariant) in
    true≢false (sym c.requires.defined ∙ ap has_table here)

pub unreachable-requires-in-Undefined : goal.unreachable-requires-in-Undefined
unreachable-requires-in-Undefined c =
    let s = c.args.self.now in
    let here = subst (λ kept. IsKept s.run s.step s.node kept) c.in-Undefined.is (subst (λ (t : Kept). IsKept t.run t.step t.node c.self.inside.state) c.self.view_is c.self.invariant) in
    true≢false (sym c.requires.defined ∙ ap has_table here)
