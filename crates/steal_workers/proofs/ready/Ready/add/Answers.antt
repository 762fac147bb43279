use Rattle.std.proofs.Common.{eqb, sym, subst, arith}
use Rattle.std.specs.List.{IsDistinct}
use Rattle.steal_workers.{specs.Lists.IsListed, proofs.Listing.{below_push, distinct_push, room_left}}
use Rattle.steal_workers.proofs.ready.Ready.add.Goals as goal

pub push-requires : goal.push-requires
push-requires c = (omega arith, room_left c.args.self.now.nodes.items c.args.node c.args.self.now.distinct c.requires.fresh c.args.self.now.below c.requires.below)

pub invariant_of-self : goal.invariant_of-self
invariant_of-self c = record {
  distinct = subst (IsDistinct eqb) (sym c.push.ensures.items) (distinct_push c.args.self.now.nodes.items c.args.node c.args.self.now.distinct c.requires.fresh);
  below = λ n is. below_push c.args.self.now.nodes.items c.args.node c.args.self.now.below c.requires.below n (subst (λ l. IsListed l n) c.push.ensures.items is);
}
