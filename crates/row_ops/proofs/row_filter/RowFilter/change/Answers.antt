use Rattle.std.proofs.Common.{◌≡◌, refl, ap, sym, ◌∙◌, subst, arith, length, ◌+◌, ◌*◌, ◌≤◌}
use Rattle.std.proofs.lemmas.Result.{IfOk-weaker}
use Rattle.row_changes.proofs.Comparing.{on_err}
use Rattle.row_ops.{specs.Filter.{RowTest, filtered}, proofs.Crossed.{new_part, old_part}, proofs.Walked.where_reads}
use Rattle.shown_rows.specs.Shown.{through}
use Rattle.tick_model.{specs.Changes.{Change, change_of}, specs.Formulas.{IsTestWithin, truth}, specs.Tables.keys, specs.Updates.between, specs.Where.where_table}
use Rattle.tick_table.specs.Exact.{counted, tick_of}
use Rattle.row_ops.proofs.row_filter.RowFilter.change.Goals as goal

pub crossing_rows-requires-clause-within : goal.crossing_rows-requires-clause-within
crossing_rows-requires-clause-within g c = subst (λ w. IsTestWithin w c.self.inside.test) (sym (c.requires.width ∙ ap (λ (filter : RowTest). filter.width) (sym c.self.view_is))) c.self.invariant

pub crossing_rows-requires-clause-shown : goal.crossing_rows-requires-clause-shown
crossing_rows-requires-clause-shown g c = subst (λ (filter : RowTest). c.args.shown.now ≡ keys (where_table filter.test c.args.input.now.old).rows) (sym c.self.view_is) c.requires.shown

pub shown_change-requires-clause-old_part : goal.shown_change-requires-clause-old_part
shown_change-requires-clause-old_part g c = old_part (truth c.args.self.now.test) c.args.input.now c.requires.exact

pub shown_change-requires-clause-new_part : goal.shown_change-requires-clause-new_part
shown_change-requires-clause-new_part g c = new_part (truth c.args.self.now.test) c.args.input.now c.requires.exact

pub shown_change-requires-clause-leaving : goal.shown_change-requires-clause-leaving
shown_change-requires-clause-leaving g c =
    subst (λ (filter : RowTest). c.in_ok-crossing.crossing.leaving ≡ (between (through (where_table filter.test) (tick_of c.args.input.now))).removed) c.self.view_is c.in_ok-crossing.ensures.leaving

pub shown_change-requires-clause-coming : goal.shown_change-requires-clause-coming
shown_change-requires-clause-coming g c =
    subst (λ (filter : RowTest). c.in_ok-crossing.crossing.coming ≡ (between (through (where_table filter.test) (tick_of c.args.input.now))).added) c.self.view_is c.in_ok-crossing.ensures.coming

pub returns-clause-reads : goal.returns-clause-reads
returns-clause-reads g c =
    let t = c.args.input.now in
    let coming = c.in_ok-crossing.crossing.coming in
    let came = subst (λ (filter : RowTest). coming ≡ (between (through (where_table filter.test) (tick_of t))).added) c.self.view_is c.in_ok-crossing.ensures.coming in
    IfOk-weaker c.shown_change.result (λ change. change ≡ change_of (filtered c.args.self.now.test (tick_of t))) (λ change. c.shown_change.new.reads ≤ c.args.reads.now + 4 * (t.new.width + t.new.width) * (counted t.update + counted change.update))
    (λ change is.
    where_reads t.new.width c.args.reads.now c.crossing_rows.new.reads c.shown_change.new.reads t.update change.update (length coming)
    c.in_ok-crossing.ensures.reads c.shown_change.ensures.reads (ap (λ (change : Change). length change.update.added) is ∙ ap length (sym came))) c.shown_change.ensures.change

pub returns-clause-refused : goal.returns-clause-refused
returns-clause-refused g c =
    let t = c.args.input.now in
    let coming = c.in_ok-crossing.crossing.coming in
    let came = subst (λ (filter : RowTest). coming ≡ (between (through (where_table filter.test) (tick_of t))).added) c.self.view_is c.in_ok-crossing.ensures.coming in
    on_err c.shown_change.result
    (where_reads t.new.width c.args.reads.now c.crossing_rows.new.reads c.shown_change.new.reads t.update (change_of (filtered c.args.self.now.test (tick_of t))).update (length coming)
    c.in_ok-crossing.ensures.reads c.shown_change.ensures.reads (ap length (sym came)))

pub returns-in_err-crossing-clause-refused : goal.returns-in_err-crossing-clause-refused
returns-in_err-crossing-clause-refused g c =
    let t = c.args.input.now in
    let own = (change_of (filtered c.args.self.now.test (tick_of t))).update in
    on_err c.from_residual.result (where_reads t.new.width c.args.reads.now c.crossing_rows.new.reads c.crossing_rows.new.reads t.update own (length own.added) c.crossing_rows.ensures.reads (omega arith) refl)
