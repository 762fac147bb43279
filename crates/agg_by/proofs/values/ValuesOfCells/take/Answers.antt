use Rattle.std.proofs.Common.{ap, sym, ◌∙◌, subst, ◌∷◌, ℤ, w64}
use Rattle.std.{specs.List.Sorted.IsPermutation, proofs.lemmas.Int.to_z-of_z}
use Rattle.agg_by.{specs.Values.{IsAmong, unplaced}, proofs.Counted.kept_gone}
use Rattle.agg_by.proofs.values.ValuesOfCells.take.Goals as goal

pub settle-requires : goal.settle-requires
settle-requires c =
    let gone = c.self.inside.gone.data.items in
    let more = c.push.new.self.data.items in
    let pushed = subst (λ (value : ℤ). IsPermutation (value ∷ gone) more) (to_z-of_z w64 c.args.value c.ranges.value) c.in_ok-push.ensures.permutation in
    (kept_gone c.self.inside.live.data.items gone more c.args.value c.self.invariant c.in_ok-push.ensures.heap_order pushed (subst (IsAmong c.args.value) (sym c.self.view_is) c.requires)).0

pub returns : goal.returns
returns c =
    let gone = c.self.inside.gone.data.items in
    let more = c.push.new.self.data.items in
    let pushed = subst (λ (value : ℤ). IsPermutation (value ∷ gone) more) (to_z-of_z w64 c.args.value c.ranges.value) c.in_ok-push.ensures.permutation in
    c.tidy.ensures ∙ c.settle.ensures.left
    ∙ (kept_gone c.self.inside.live.data.items gone more c.args.value c.self.invariant c.in_ok-push.ensures.heap_order pushed (subst (IsAmong c.args.value) (sym c.self.view_is) c.requires)).1
    ∙ ap (unplaced c.args.value) c.self.view_is
