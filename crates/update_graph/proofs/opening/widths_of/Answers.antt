use Rattle.std.proofs.Common.{ap₂, sym, ◌∙◌, ◌++◌, ◌∷◌, [], length}
use Rattle.std.proofs.lemmas.List.{map_more}
use Rattle.tick_model.specs.Plans.{columns_at}
use Rattle.update_graph.proofs.opening.widths_of.Goals as goal

pub loop-input-preserved : goal.loop-input-preserved
loop-input-preserved c =
    c.in_ok-push.ensures.items
    ∙ ap₂ (λ these width. these ++ width ∷ []) c.loop-input.invariant c.width_of-width.ensures.width
    ∙ sym (map_more (λ input. length (columns_at c.args.run.now.plan.nodes input)) c.as_slice-inputs.result.now c.loop-input.input-index 0 c.loop-input-test.true)
