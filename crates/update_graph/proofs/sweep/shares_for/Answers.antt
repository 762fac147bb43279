use Rattle.std.proofs.Common.{ap, ap₂, sym, ◌∙◌, subst, ◌<◌, ◌++◌, ◌∷◌, [], length, get_or}
use Rattle.std.{specs.List.AllByRecursion, proofs.lemmas.List.map_more}
use Rattle.key_lists.proofs.Every.{all_from}
use Rattle.update_graph.{specs.Tags.{Tag, tag}, proofs.Sweeping.is_tag}
use Rattle.update_graph.proofs.sweep.shares_for.Goals as goal

pub copy-requires : goal.copy-requires
copy-requires c =
    let inputs = c.as_slice-inputs.result.now in
    let k = c.loop-input.input-index in
    let below = all_from (λ input. input < length c.args.shares.now) inputs (subst (AllByRecursion (λ input. input < length c.args.shares.now)) (sym (c.as_slice-inputs.ensures ∙ c.inputs-inputs.ensures)) c.requires.inputs) k 0 c.loop-input-test.true in
    sym (ap (λ (t : Tag). t.run) (is_tag c.args.run.now c.args.step (length c.args.shares.now) (get_or inputs k 0) c.args.shares.now c.index-shares-input.result c.requires.shares below c.index-shares-input.is))

pub loop-input-preserved : goal.loop-input-preserved
loop-input-preserved c =
    let inputs = c.as_slice-inputs.result.now in
    let k = c.loop-input.input-index in
    let below = all_from (λ input. input < length c.args.shares.now) inputs (subst (AllByRecursion (λ input. input < length c.args.shares.now)) (sym (c.as_slice-inputs.ensures ∙ c.inputs-inputs.ensures)) c.requires.inputs) k 0 c.loop-input-test.true in
    c.in_ok-push.ensures
    ∙ ap₂ (λ these (t : Tag). these ++ t ∷ []) c.loop-input.invariant
    (c.in_ok-share.ensures ∙ is_tag c.args.run.now c.args.step (length c.args.shares.now) (get_or inputs k 0) c.args.shares.now c.index-shares-input.result c.requires.shares below c.index-shares-input.is)
    ∙ sym (map_more (tag c.args.run.now c.args.step) inputs k 0 c.loop-input-test.true)
