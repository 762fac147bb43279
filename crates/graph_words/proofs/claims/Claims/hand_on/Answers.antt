use Rattle.std.proofs.Common.{ap, sym, ◌≡◌, ◌+◌, ◌∙◌, subst, arith}
use Rattle.graph_words.{specs.declared.table.Mark.TheVariants.{Unmarked, PutBack, Delivered}, specs.Marks.{at, IsHadMark}, specs.Views.{mark_late, IsUntouched}, proofs.Asks.edge_hands_on, proofs.Marks.item_there}
use Rattle.graph_words.proofs.claims.Claims.hand_on.Goals as goal

pub load-requires : goal.load-requires
load-requires g c =
    let x = item_there c.self.inside.table.shared.key.edges.items c.args.edge (rw (← c.self.view_is) at c.requires.edge) in (
      (rw (← c.self.view_is, ← c.seat.view_is) at c.requires.of).0,
      omega (arith, c.self.invariant.counted.0, c.self.invariant.keyed.0, rw (← c.self.view_is) at c.requires.edge),
      edge_hands_on _ _ _ _ c.self.invariant.counted.1 _ _ _ _ c.args.edge x.0 (ap (λ n. n + c.args.edge) c.self.invariant.keyed.0) (rw (← c.self.view_is, ← c.seat.view_is) at c.requires.of).1 x.1
          ((rw (← c.self.view_is, ← c.seat.view_is) at c.requires.from) x.0 x.1) (rw (← c.seat.view_is) at c.requires.fresh),
    )

pub invariant_of-seat : goal.invariant_of-seat
invariant_of-seat g c = c.load.ensures.2.0 ∙ c.seat.invariant

pub deliver-requires-clause-of : goal.deliver-requires-clause-of
deliver-requires-clause-of g c κs within =
    let told = c.load.ensures.2.1 c.self.inside.table.shared.key c.args.edge (rw (← c.self.view_is, ← c.seat.view_is) at c.requires.of).1 (ap (λ n. n + c.args.edge) c.self.invariant.keyed.0) ∙ ap (λ s. mark_late s.view c.args.edge Delivered) c.seat.view_is in
    (c.load.ensures.0 ∙ (ap (λ s. s.table) c.seat.view_is ∙ c.requires.of.0), ap (λ v. v.plan) told ∙ c.requires.of.1)

pub deliver-requires-clause-from : goal.deliver-requires-clause-from
deliver-requires-clause-from g c κs within x at_x =
    let told = c.load.ensures.2.1 c.self.inside.table.shared.key c.args.edge (rw (← c.self.view_is, ← c.seat.view_is) at c.requires.of).1 (ap (λ n. n + c.args.edge) c.self.invariant.keyed.0) ∙ ap (λ s. mark_late s.view c.args.edge Delivered) c.seat.view_is in
    let back : at c.load.new.seat.me.0.nodes x.from ≡ PutBack = ap (λ v. at v.nodes x.from) told ∙ c.requires.from x at_x in
    subst IsHadMark (sym back) tt

pub deliver-requires-clause-fresh : goal.deliver-requires-clause-fresh
deliver-requires-clause-fresh g c κs within =
    let told = c.load.ensures.2.1 c.self.inside.table.shared.key c.args.edge (rw (← c.self.view_is, ← c.seat.view_is) at c.requires.of).1 (ap (λ n. n + c.args.edge) c.self.invariant.keyed.0) ∙ ap (λ s. mark_late s.view c.args.edge Delivered) c.seat.view_is in
    ap (λ v. at v.outs c.args.edge) told ∙ c.requires.fresh

pub returns-clause-fresh : goal.returns-clause-fresh
returns-clause-fresh g c x at_x =
    let told = c.load.ensures.2.1 c.self.inside.table.shared.key c.args.edge (rw (← c.self.view_is, ← c.seat.view_is) at c.requires.of).1 (ap (λ n. n + c.args.edge) c.self.invariant.keyed.0) ∙ ap (λ s. mark_late s.view c.args.edge Delivered) c.seat.view_is in
    subst (λ v. (at v.nodes x.to ≡ Unmarked) × IsUntouched c.args.self.now.plan v x.to) told (c.deliver.ensures.fresh x at_x)
