use Rattle.std.proofs.Common.{ap, ◌∙◌, ◌++◌, ◌+◌, length, map}
use Rattle.std.specs.Prelude.{flat_map}
use Rattle.tick_model.specs.Texts.{column_name, comma_before}
use Rattle.update_text.proofs.ChangeRecords.{chosen_from, chosen_all, chosen_next, column_named}
use Rattle.update_text.proofs.changes.push_names.Goals as goal

pub loop-place-init : goal.loop-place-init
loop-place-init c =
    ap (λ chosen. c.args.text.now.items ++ flat_map comma_before (map (column_name c.args.columns.now) chosen)) (chosen_all c.args.chosen.now (length c.args.columns.now) c.requires.rising c.requires.there)

pub loop-place-preserved : goal.loop-place-preserved
loop-place-preserved c =
    let columns = c.args.columns.now in
    let place = c.loop-place.place in
    let later = flat_map comma_before (map (column_name columns) (chosen_from c.args.chosen.now (place + 1) (length columns))) in
    ap (λ text. text ++ later) c.in_ok-push_chosen.ensures
    ∙ chosen_next columns c.args.chosen.now place c.as_bytes.result.now c.loop-place.text.items c.has-is_chosen.result c.loop-place-test.true c.has-is_chosen.ensures
    (c.as_bytes.ensures.value ∙ c.as_str.ensures ∙ column_named columns place c.index-columns-place.result c.loop-place-test.true c.index-columns-place.is)
    ∙ c.loop-place.invariant
