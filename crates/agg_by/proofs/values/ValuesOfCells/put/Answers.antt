use Rattle.std.proofs.Common.{ap, ◌∙◌, subst, ◌∷◌, ℤ, w64}
use Rattle.std.{specs.List.Sorted.IsPermutation, proofs.lemmas.Int.to_z-of_z}
use Rattle.agg_by.{specs.Values.placed, proofs.Counted.settled_more}
use Rattle.agg_by.proofs.values.ValuesOfCells.put.Goals as goal

pub invariant_of-self-2 : goal.invariant_of-self-2
invariant_of-self-2 c =
    let live = c.self.inside.live.data.items in
    let more = c.push.new.self.data.items in
    let pushed = subst (λ (value : ℤ). IsPermutation (value ∷ live) more) (to_z-of_z w64 c.args.value c.ranges.value) c.in_ok-push.ensures.permutation in
    (settled_more live c.self.inside.gone.data.items more c.args.value c.self.invariant c.in_ok-push.ensures.heap_order pushed).0

pub returns : goal.returns
returns c =
    let live = c.self.inside.live.data.items in
    let more = c.push.new.self.data.items in
    let pushed = subst (λ (value : ℤ). IsPermutation (value ∷ live) more) (to_z-of_z w64 c.args.value c.ranges.value) c.in_ok-push.ensures.permutation in
    (settled_more live c.self.inside.gone.data.items more c.args.value c.self.invariant c.in_ok-push.ensures.heap_order pushed).1 ∙ ap (placed c.args.value) c.self.view_is
