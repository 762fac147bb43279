use Rattle.std.proofs.Common.{◌≡◌, ap, sym, ◌∙◌, subst, ◌+◌, ◌*◌, ◌<◌, ◌≤◌, ◌^◌, arith, length}
use Rattle.std.{specs.declared.alloc.Global.Global, specs.declared.sync.Arc.Arc, specs.Arc.arc_value, specs.List.AllByRecursion, proofs.lemmas.List.length-map}
use Rattle.row_changes.proofs.Comparing.{on_err}
use Rattle.tick_model.specs.Changes.{change_of}
use Rattle.tick_table.{specs.Exact.counted, specs.Ticking.Ticking}
use Rattle.table_operator.specs.Inputs.{counted_in, tables}
use Rattle.merge_op.{specs.Merged.{Merging, merged}, proofs.Reading.{added_there, before_there, merged_width, now_there, reads_few}, proofs.Starting.starts_are, proofs.Ticked.merged_is_tick}
use Rattle.merge_op.proofs.merging.Merge.change.Goals as goal

pub rows_of-rows-requires-clause-count : goal.rows_of-rows-requires-clause-count
rows_of-rows-requires-clause-count g c =
    let count : c.self.inside.count ≡ c.args.self.now.count = ap (λ (merging : Merging). merging.count) c.self.view_is in
    omega (arith, c.requires.count, c.self.invariant.1, count)

pub touched_rows-requires-clause-starts : goal.touched_rows-requires-clause-starts
touched_rows-requires-clause-starts g c =
    let ts = tables c.args.inputs.now in
    let count : c.self.inside.count ≡ c.args.self.now.count = ap (λ (merging : Merging). merging.count) c.self.view_is in
    let few : length ts ≤ 16 = omega (arith, length-map c.args.inputs.now (λ (shared : Arc Ticking Global). arc_value {X = Ticking} shared), c.requires.count, c.self.invariant.1, count) in
    starts_are ts few (subst (AllByRecursion (λ key. key < 2 ^ 62)) c.requires.shown c.len-count.ensures.keys.small) c.requires.keys

pub touched_rows-requires-clause-tick : goal.touched_rows-requires-clause-tick
touched_rows-requires-clause-tick g c =
    let ts = tables c.args.inputs.now in
    merged_is_tick c.args.self.now.width ts c.requires.exact c.requires.widths (subst (AllByRecursion (λ key. key < 2 ^ 62)) c.requires.shown c.len-count.ensures.keys.small) c.requires.keys

pub change_of_touched-requires-clause-ready : goal.change_of_touched-requires-clause-ready
change_of_touched-requires-clause-ready g c =
    let ts = tables c.args.inputs.now in
    let wide : c.self.inside.width ≡ c.args.self.now.width = ap (λ (merging : Merging). merging.width) c.self.view_is in
    (c.in_ok-touched.ensures.parts.tick, c.requires.exact, subst (λ width. AllByRecursion (λ (t : Ticking). t.new.width ≡ width) ts) (sym wide) c.requires.widths)

pub change_of_touched-requires-clause-width : goal.change_of_touched-requires-clause-width
change_of_touched-requires-clause-width g c =
    let ts = tables c.args.inputs.now in
    let wide : c.self.inside.width ≡ c.args.self.now.width = ap (λ (merging : Merging). merging.width) c.self.view_is in
    let count : c.self.inside.count ≡ c.args.self.now.count = ap (λ (merging : Merging). merging.count) c.self.view_is in
    let some : 0 < length ts = omega (arith, length-map c.args.inputs.now (λ (shared : Arc Ticking Global). arc_value {X = Ticking} shared), c.requires.count, c.self.invariant.0, count) in
    wide ∙ merged_width c.args.self.now.width ts c.requires.widths some

pub change_of_touched-requires-clause-even : goal.change_of_touched-requires-clause-even
change_of_touched-requires-clause-even g c = c.in_ok-touched.ensures.parts.compared.even

pub change_of_touched-requires-clause-added : goal.change_of_touched-requires-clause-added
change_of_touched-requires-clause-added g c =
    let tick = merged (tables c.args.inputs.now) in
    added_there tick.old tick.new c.in_ok-touched.touched tick.kept c.in_ok-touched.ensures.parts

pub change_of_touched-requires-clause-before : goal.change_of_touched-requires-clause-before
change_of_touched-requires-clause-before g c =
    let tick = merged (tables c.args.inputs.now) in
    before_there tick.old tick.new c.in_ok-touched.touched tick.kept c.in_ok-touched.ensures.parts

pub change_of_touched-requires-clause-now : goal.change_of_touched-requires-clause-now
change_of_touched-requires-clause-now g c =
    let tick = merged (tables c.args.inputs.now) in
    now_there tick.old tick.new c.in_ok-touched.touched tick.kept c.in_ok-touched.ensures.parts

pub returns-clause-tick : goal.returns-clause-tick
returns-clause-tick g c = c.in_ok-touched.ensures.parts.tick

pub returns-clause-change : goal.returns-clause-change
returns-clause-change g c = c.in_ok-change_of_touched.ensures.change (merged (tables c.args.inputs.now)).kept c.in_ok-touched.ensures.parts

pub returns-clause-reads : goal.returns-clause-reads
returns-clause-reads g c =
    subst (λ (merging : Merging). c.change_of_touched.new.reads ≤ c.args.reads.now + 4 * (merging.count * merging.width + merging.width) * (counted_in (tables c.args.inputs.now) + counted c.in_ok-change_of_touched.field-0.update)) c.self.view_is
    (reads_few c.self.inside.count c.self.inside.width c.args.reads.now c.change_of_touched.new.reads (length c.in_ok-touched.touched.compared_now) (length c.in_ok-touched.touched.added) (tables c.args.inputs.now) c.in_ok-change_of_touched.field-0.update
    c.in_ok-change_of_touched.ensures.reads c.in_ok-touched.ensures.modified c.in_ok-touched.ensures.added)

pub returns-in_err-change_of_touched-clause-refused : goal.returns-in_err-change_of_touched-clause-refused
returns-in_err-change_of_touched-clause-refused g c =
    let ts = tables c.args.inputs.now in
    let own = (change_of (merged ts)).update in
    on_err c.from_residual-in_err-change_of_touched.result
    (subst (λ (merging : Merging). c.change_of_touched.new.reads ≤ c.args.reads.now + 4 * (merging.count * merging.width + merging.width) * (counted_in ts + counted own)) c.self.view_is
    (reads_few c.self.inside.count c.self.inside.width c.args.reads.now c.change_of_touched.new.reads (length c.in_ok-touched.touched.compared_now) (length c.in_ok-touched.touched.added) ts own
    c.change_of_touched.ensures.reads c.in_ok-touched.ensures.modified c.in_ok-touched.ensures.added))
