use Rattle.std.proofs.Common.{◌<◌, ap, ◌∙◌, arith, length, get_or, set}
use Rattle.std.{proofs.lemmas.List.get_or_default, proofs.lemmas.List.Edits.map_over_more}
use Rattle.agg_by.specs.Answers.{with_row}
use Rattle.agg_by.proofs.running.put_all.Goals as goal

pub loop-place-preserved : goal.loop-place-preserved
loop-place-preserved c =
    let all = c.loop-place.all in
    let place = c.loop-place.place in
    let held = get_or all place c.index-all-place.result in
    let below : place < length c.args.all.now = omega arith in
    let within : place < length all = omega (arith, below, c.loop-place.auto.all) in
    ap (set all place) c.in_ok-put.ensures
    ∙ map_over_more (with_row c.args.number c.args.row.now) c.args.all.now all place held below c.loop-place.invariant (get_or_default all place c.index-all-place.result held within)
