use Rattle.std.proofs.Common.{◌≡◌, ap, ap₂, sym, ◌∙◌, subst, ◌+◌, ◌*◌, ◌≤◌, length}
use Rattle.row_changes.proofs.Comparing.{on_err}
use Rattle.tick_model.{specs.Agg.agg_table, specs.Changes.{Change, change_of}, specs.Updates.between}
use Rattle.tick_table.{proofs.Between.between_lawful, proofs.ExactAgain.change_whole, specs.Exact.{counted, tick_of}, specs.Ticking.Ticking}
use Rattle.agg_by.{specs.Aggregator.{Aggregator, StandsFor, grouped}, proofs.GroupParts.{is_tick, tick}}
use Rattle.agg_by.proofs.agg_op.AggOp.step.Goals as goal

pub change-requires-clause-width : goal.change-requires-clause-width
change-requires-clause-width g c = c.requires.width ∙ ap (λ (aggregator : Aggregator). aggregator.width) (sym c.self.view_is)

pub change-requires-clause-keeps : goal.change-requires-clause-keeps
change-requires-clause-keeps g c =
    let stands = subst (λ (aggregator : Aggregator). StandsFor aggregator c.args.input.now.old) (sym c.self.view_is) c.requires.stands in
    record { rows = stands.rows; running = stands.running }

pub change-requires-clause-shown : goal.change-requires-clause-shown
change-requires-clause-shown g c = (subst (λ (aggregator : Aggregator). StandsFor aggregator c.args.input.now.old) (sym c.self.view_is) c.requires.stands).shown

pub apply-requires-clause-lawful : goal.apply-requires-clause-lawful
apply-requires-clause-lawful g c =
    let t = c.args.input.now in
    let own = c.self.inside.aggregation in
    let shown : c.self.inside.shown.new ≡ agg_table own.by own.aggs t.old = (subst (λ (aggregator : Aggregator). StandsFor aggregator t.old) (sym c.self.view_is) c.requires.stands).shown in
    let told : c.in_ok-told.told ≡ change_of (tick own.by own.aggs t c.requires.exact) = c.in_ok-told.ensures ∙ c.in_ok-aggregation.ensures.change in
    rw (told, shown) (between_lawful (tick own.by own.aggs t c.requires.exact) (is_tick own.by own.aggs t c.requires.exact))

pub apply-requires-clause-whole : goal.apply-requires-clause-whole
apply-requires-clause-whole g c =
    let t = c.args.input.now in
    let own = c.self.inside.aggregation in
    let shown : c.self.inside.shown.new ≡ agg_table own.by own.aggs t.old = (subst (λ (aggregator : Aggregator). StandsFor aggregator t.old) (sym c.self.view_is) c.requires.stands).shown in
    let told : c.in_ok-told.told ≡ change_of (tick own.by own.aggs t c.requires.exact) = c.in_ok-told.ensures ∙ c.in_ok-aggregation.ensures.change in
    rw (told, shown) (change_whole (tick own.by own.aggs t c.requires.exact) (is_tick own.by own.aggs t c.requires.exact))

pub returns-clause-by : goal.returns-clause-by
returns-clause-by g c = c.in_ok-aggregation.ensures.by ∙ ap (λ (aggregator : Aggregator). aggregator.by) c.self.view_is

pub returns-clause-aggs : goal.returns-clause-aggs
returns-clause-aggs g c = c.in_ok-aggregation.ensures.aggs ∙ ap (λ (aggregator : Aggregator). aggregator.aggs) c.self.view_is

pub returns-clause-width : goal.returns-clause-width
returns-clause-width g c = c.in_ok-aggregation.ensures.width ∙ ap (λ (aggregator : Aggregator). aggregator.width) c.self.view_is

pub returns-clause-stands : goal.returns-clause-stands
returns-clause-stands g c =
    let t = c.args.input.now in
    let e = c.requires.exact in
    let own = c.self.inside.aggregation in
    let made = c.in_ok-aggregation.ensures in
    let shown : c.self.inside.shown.new ≡ agg_table own.by own.aggs t.old = (subst (λ (aggregator : Aggregator). StandsFor aggregator t.old) (sym c.self.view_is) c.requires.stands).shown in
    record {
      rows = made.keeps.rows;
      running = made.keeps.running;
      shown = ap (λ (table : Ticking). table.new) (c.in_ok-shown.ensures.exact (tick own.by own.aggs t e) (is_tick own.by own.aggs t e) shown (c.in_ok-told.ensures ∙ made.change))
          ∙ ap₂ (λ by aggs. agg_table by aggs t.new) (sym made.by) (sym made.aggs);
    }

pub returns-clause-change : goal.returns-clause-change
returns-clause-change g c = c.in_ok-aggregation.ensures.change ∙ ap (λ (aggregator : Aggregator). change_of (grouped aggregator.by aggregator.aggs (tick_of c.args.input.now))) c.self.view_is

pub returns-clause-reads : goal.returns-clause-reads
returns-clause-reads g c =
    let t = c.args.input.now in
    subst (λ (aggregator : Aggregator). c.change.new.reads ≤ c.args.reads.now + 4 * (t.new.width + (length aggregator.by + length aggregator.aggs)) * (counted t.update + counted c.in_ok-aggregation.change.update)) c.self.view_is c.in_ok-aggregation.ensures.reads

pub returns-in_err-aggregation-clause-refused : goal.returns-in_err-aggregation-clause-refused
returns-in_err-aggregation-clause-refused g c =
    let t = c.args.input.now in
    on_err c.from_residual.result
    (subst (λ (aggregator : Aggregator). c.change.new.reads ≤ c.args.reads.now + 4 * (t.new.width + (length aggregator.by + length aggregator.aggs)) * (counted t.update + counted (between (grouped aggregator.by aggregator.aggs (tick_of t))))) c.self.view_is c.in_err-aggregation.ensures.refused)

pub returns-in_err-told-clause-refused : goal.returns-in_err-told-clause-refused
returns-in_err-told-clause-refused g c =
    let t = c.args.input.now in
    let own = c.self.inside.aggregation in
    on_err c.from_residual-in_err-told.result
    (subst (λ (aggregator : Aggregator). c.change.new.reads ≤ c.args.reads.now + 4 * (t.new.width + (length aggregator.by + length aggregator.aggs)) * (counted t.update + counted (between (grouped aggregator.by aggregator.aggs (tick_of t))))) c.self.view_is
    (subst (λ (change : Change). c.change.new.reads ≤ c.args.reads.now + 4 * (t.new.width + (length own.by + length own.aggs)) * (counted t.update + counted change.update)) c.in_ok-aggregation.ensures.change c.in_ok-aggregation.ensures.reads))

pub returns-in_err-shown-clause-refused : goal.returns-in_err-shown-clause-refused
returns-in_err-shown-clause-refused g c =
    let t = c.args.input.now in
    let own = c.self.inside.aggregation in
    on_err c.from_residual-in_err-shown.result
    (subst (λ (aggregator : Aggregator). c.change.new.reads ≤ c.args.reads.now + 4 * (t.new.width + (length aggregator.by + length aggregator.aggs)) * (counted t.update + counted (between (grouped aggregator.by aggregator.aggs (tick_of t))))) c.self.view_is
    (subst (λ (change : Change). c.change.new.reads ≤ c.args.reads.now + 4 * (t.new.width + (length own.by + length own.aggs)) * (counted t.update + counted change.update)) c.in_ok-aggregation.ensures.change c.in_ok-aggregation.ensures.reads))
