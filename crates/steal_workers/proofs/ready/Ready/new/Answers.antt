use Rattle.std.proofs.Common.{eqb, sym, subst}
use Rattle.std.specs.List.{IsDistinct}
use Rattle.steal_workers.{specs.Lists.IsListed, proofs.Listing.{distinct_none, true_false}}
use Rattle.steal_workers.proofs.ready.Ready.new.Goals as goal

pub invariant_of-result : goal.invariant_of-result
invariant_of-result c = record {
  distinct = subst (IsDistinct eqb) (sym c.new.ensures) distinct_none;
  below = λ n is. absurd (true_false (sym (subst (λ l. IsListed l n) c.new.ensures is)));
}
