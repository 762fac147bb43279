use Rattle.std.proofs.Common.{ap, sym, ◌∙◌, ◌+◌, ◌++◌, ◌∷◌, []}
use Rattle.key_lists.proofs.Ranges.{range_last}
use Rattle.tick_table.proofs.slots.slots_from.Goals as goal

pub loop-place-preserved : goal.loop-place-preserved
loop-place-preserved c =
    c.in_ok-push.ensures.items ∙ ap (λ slots. slots ++ (c.args.first + c.loop-place.place) ∷ []) c.loop-place.invariant ∙ sym (range_last c.args.first c.loop-place.place)
