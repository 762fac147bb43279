use Rattle.std.proofs.Common.{◌+◌, length, ap, ap₂, sym, ◌∙◌, subst, to_z-of_z, arith}
use Rattle.std.{specs.Vec.with_items, proofs.lemmas.List.with_items_is}
use Rattle.row_set.{specs.Ranges.AreRanges, specs.Runs.lying, proofs.Lying.length-lying, proofs.Moved.{lying_moved, moved_counted, moved_ranges, with_moved}}
use Rattle.row_set.proofs.shifts.shift_runs.Goals as goal

pub returns-clause-counted : goal.returns-clause-counted
returns-clause-counted c =
    let runs = c.args.runs.now in
    let new = with_items runs.all c.shift_ranges.new.ranges in
    let items = with_items_is runs.all c.shift_ranges.new.ranges (omega (arith, c.shift_ranges.auto.ranges, ap length c.deref_mut.ensures.value, runs.all.ok.0)) ∙ c.shift_ranges.ensures ∙ ap₂ (λ d those. with_moved d (runs.front + c.args.from) (runs.front + c.args.to) those) (to_z-of_z c.ranges.delta) c.deref_mut.ensures.value in
    moved_counted c.args.delta runs.front c.args.from c.args.to runs.all.items new.items runs.starts.items c.requires.counted c.requires.order (omega (arith, length-lying runs.front runs.all.items c.requires.counted.free, c.requires.within)) c.requires.apart c.requires.lands items

pub returns-clause-ranges : goal.returns-clause-ranges
returns-clause-ranges c =
    let runs = c.args.runs.now in
    let new = with_items runs.all c.shift_ranges.new.ranges in
    let items = with_items_is runs.all c.shift_ranges.new.ranges (omega (arith, c.shift_ranges.auto.ranges, ap length c.deref_mut.ensures.value, runs.all.ok.0)) ∙ c.shift_ranges.ensures ∙ ap₂ (λ d those. with_moved d (runs.front + c.args.from) (runs.front + c.args.to) those) (to_z-of_z c.ranges.delta) c.deref_mut.ensures.value in
    subst AreRanges (sym (lying_moved c.args.delta runs.front c.args.from c.args.to runs.all.items new.items (omega (arith, length-lying runs.front runs.all.items c.requires.counted.free, c.requires.within, c.requires.order)) items))
    (moved_ranges c.args.delta c.args.from c.args.to (lying runs) c.requires.order c.requires.ranges c.requires.apart c.requires.lands)

pub returns-clause-items : goal.returns-clause-items
returns-clause-items c =
    let runs = c.args.runs.now in
    let new = with_items runs.all c.shift_ranges.new.ranges in
    let items = with_items_is runs.all c.shift_ranges.new.ranges (omega (arith, c.shift_ranges.auto.ranges, ap length c.deref_mut.ensures.value, runs.all.ok.0)) ∙ c.shift_ranges.ensures ∙ ap₂ (λ d those. with_moved d (runs.front + c.args.from) (runs.front + c.args.to) those) (to_z-of_z c.ranges.delta) c.deref_mut.ensures.value in
    lying_moved c.args.delta runs.front c.args.from c.args.to runs.all.items new.items (omega (arith, length-lying runs.front runs.all.items c.requires.counted.free, c.requires.within, c.requires.order)) items
