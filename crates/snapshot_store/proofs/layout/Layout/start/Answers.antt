use Rattle.std.proofs.Common.{◌≡◌, ◌∙◌, ◌<◌, ◌≤◌, ◌+◌, ◌*◌, length, subst, sym, arith, List}
use Rattle.std.proofs.lemmas.Grind.{get_or_default_zero}
use Rattle.tick_model.specs.declared.plan.Published.{Published}
use Rattle.snapshot_store.{specs.Lines.{size_in, start_in, limit_in, width_in}, proofs.Places.below_less}
use Rattle.snapshot_store.proofs.layout.Layout.start.Goals as goal

pub returns-clause-small : goal.returns-clause-small
returns-clause-small c =
    let number : c.args.number < length c.self.inside.tables.items = subst (λ (z : List Published). c.args.number < length z) (sym c.self.view_is) c.requires in
    let e : c.index.result.now ≡ start_in c.self.inside.tables.items c.args.number = c.index.ensures ∙ (get_or_default_zero c.self.inside.starts.items c.args.number c.index.result.now (let l = c.self.invariant.as_many in omega arith) ∙ c.self.invariant.each c.args.number number) in
    let b = below_less (size_in c.self.inside.tables.items) (length c.self.inside.tables.items) c.args.number (limit_in c.self.inside.tables.items c.args.number * (1 + width_in c.self.inside.tables.items c.args.number)) number (omega arith) in
    subst (λ (z : List Published). c.index.result.now ≤ start_in z (length z)) c.self.view_is (omega arith)
