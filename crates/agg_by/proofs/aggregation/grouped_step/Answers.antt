use Rattle.std.proofs.Common.{ap, ap₂, sym, ◌∙◌, subst, arith, List, ℕ}
use Rattle.std.specs.List.{list_any}
use Rattle.row_groups.specs.Members.{groups_of}
use Rattle.tick_model.{specs.Agg.agg_table, specs.Changes.change_of, specs.declared.plan.Agg.Agg, specs.declared.table.PlainTable.PlainTable, specs.Tables.keys}
use Rattle.tick_table.specs.Exact.{tick_of}
use Rattle.agg_by.{specs.Aggregator.grouped, specs.Notes.IsNoted, specs.Steps.{first_keys, starts, touched_cells, touched_firsts}, specs.Touched.{AreLed, starts_numbered}, proofs.GroupRows.keys-agg, proofs.Whole.{begun_keeps, brought_reads, changed_reads, found_firsts, within_all}}
use Rattle.agg_by.proofs.aggregation.grouped_step.Goals as goal

pub of-requires-clause-rows : goal.of-requires-clause-rows
of-requires-clause-rows g c =
    (begun_keeps c.args.kept.now c.begin.new.self c.args.input.now.old.rows c.in_ok-begin.ensures.made c.in_ok-begin.ensures.rows c.in_ok-begin.ensures.running c.requires.rows c.requires.running).rows

pub noted_groups-requires-clause-rows : goal.noted_groups-requires-clause-rows
noted_groups-requires-clause-rows g c =
    (begun_keeps c.args.kept.now c.begin.new.self c.args.input.now.old.rows c.in_ok-begin.ensures.made c.in_ok-begin.ensures.rows c.in_ok-begin.ensures.running c.requires.rows c.requires.running).rows

pub noted_groups-requires-clause-shown : goal.noted_groups-requires-clause-shown
noted_groups-requires-clause-shown g c =
    let made = c.in_ok-begin.ensures.made in
    c.requires.shown ∙ ap₂ (λ (by : List ℕ) (aggs : List Agg). agg_table by aggs c.args.input.now.old) (sym made.by) (sym made.aggs)

pub bring_on-requires-clause-keeps : goal.bring_on-requires-clause-keeps
bring_on-requires-clause-keeps g c =
    begun_keeps c.args.kept.now c.begin.new.self c.args.input.now.old.rows c.in_ok-begin.ensures.made c.in_ok-begin.ensures.rows c.in_ok-begin.ensures.running c.requires.rows c.requires.running

pub bring_on-requires-clause-touched : goal.bring_on-requires-clause-touched
bring_on-requires-clause-touched g c = c.in_ok-notes.ensures.touched

pub group_change-requires-clause-ready : goal.group_change-requires-clause-ready
group_change-requires-clause-ready g c =
    let t = c.args.input.now in
    let kept = c.bring_on.new.self in
    let brought = c.in_ok-bring_on.ensures.made in
    let notes = c.in_ok-notes.notes in record {
      exact = c.requires.exact;
      keeps = c.in_ok-bring_on.ensures.keeps;
      within = within_all t.new.width c.args.kept.now.aggs kept.running.items (c.in_ok-bring_on.ensures.keeps.running.0 ∙ brought.aggs ∙ c.in_ok-begin.ensures.made.aggs) c.requires.columns;
      led = subst (AreLed kept.rows) (sym c.as_slice.ensures.value) c.in_ok-firsts.ensures.led;
      noted = subst (λ (by : List ℕ). IsNoted notes (agg_table by kept.aggs t.old)) (sym brought.by) (subst (λ (aggs : List Agg). IsNoted notes (agg_table c.begin.new.self.by aggs t.old)) (sym brought.aggs) c.in_ok-notes.ensures.noted);
      keys = c.in_ok-notes.ensures.keys ∙ ap (λ (by : List ℕ). touched_firsts by t t.old.rows) (sym brought.by);
    }

pub group_change-requires-clause-firsts : goal.group_change-requires-clause-firsts
group_change-requires-clause-firsts g c =
    let t = c.args.input.now in
    let kept = c.bring_on.new.self in
    let rows = kept.rows in
    found_firsts kept.by t t.new c.requires.exact.tick.new_table (groups_of rows) c.in_ok-firsts.firsts c.in_ok-bring_on.ensures.keeps.rows c.in_ok-firsts.ensures.rising
    (λ first.
    c.in_ok-firsts.ensures.firsts first ∙ ap (list_any (starts_numbered rows first)) c.numbers.ensures ∙ c.in_ok-bring_on.ensures.firsts first
    ∙ ap (λ (by : List ℕ). list_any (starts rows.members first) (touched_cells by t)) (sym c.in_ok-bring_on.ensures.made.by))

pub group_change-requires-clause-shown : goal.group_change-requires-clause-shown
group_change-requires-clause-shown g c =
    c.rows.ensures.keys ∙ ap (λ (table : PlainTable). keys table.rows) c.requires.shown ∙ keys-agg c.args.kept.now.by c.args.kept.now.aggs c.args.input.now.old
    ∙ ap (λ by. first_keys by c.args.input.now.old.rows) (sym (c.in_ok-bring_on.ensures.made.by ∙ c.in_ok-begin.ensures.made.by))

pub returns-clause-change : goal.returns-clause-change
returns-clause-change g c =
    c.in_ok-change.ensures.change
    ∙ ap₂ (λ (by : List ℕ) (aggs : List Agg). change_of (grouped by aggs (tick_of c.args.input.now))) (c.in_ok-bring_on.ensures.made.by ∙ c.in_ok-begin.ensures.made.by) (c.in_ok-bring_on.ensures.made.aggs ∙ c.in_ok-begin.ensures.made.aggs)

pub returns-in_err-notes-clause-reads : goal.returns-in_err-notes-clause-reads
returns-in_err-notes-clause-reads g c =
    brought_reads c.args.input.now c.requires.exact c.args.shown.now.new.width c.args.reads.now c.noted_groups.new.reads c.noted_groups.new.reads c.noted_groups.ensures.reads (omega arith)

pub returns-in_err-bring_on-clause-reads : goal.returns-in_err-bring_on-clause-reads
returns-in_err-bring_on-clause-reads g c =
    brought_reads c.args.input.now c.requires.exact c.args.shown.now.new.width c.args.reads.now c.noted_groups.new.reads c.bring_on.new.reads c.noted_groups.ensures.reads c.bring_on.ensures.reads

pub returns-in_err-firsts-clause-reads : goal.returns-in_err-firsts-clause-reads
returns-in_err-firsts-clause-reads g c =
    brought_reads c.args.input.now c.requires.exact c.args.shown.now.new.width c.args.reads.now c.noted_groups.new.reads c.bring_on.new.reads c.noted_groups.ensures.reads c.bring_on.ensures.reads

pub returns-in_err-change-clause-reads : goal.returns-in_err-change-clause-reads
returns-in_err-change-clause-reads g c =
    changed_reads c.args.input.now c.requires.exact c.args.shown.now.new.width c.args.reads.now c.noted_groups.new.reads c.bring_on.new.reads c.noted_groups.ensures.reads c.bring_on.ensures.reads
    c.args.kept.now c.begin.new.self c.bring_on.new.self c.in_ok-begin.ensures.made c.in_ok-bring_on.ensures.made (ap (λ (table : PlainTable). table.width) c.requires.shown) c.in_ok-firsts.firsts c.in_ok-firsts.ensures.rising
    (λ first. c.in_ok-firsts.ensures.firsts first ∙ ap (list_any (starts_numbered c.bring_on.new.self.rows first)) c.numbers.ensures ∙ c.in_ok-bring_on.ensures.firsts first)
    c.group_change.new.reads c.group_change.ensures.reads

pub returns-clause-reads : goal.returns-clause-reads
returns-clause-reads g c =
    changed_reads c.args.input.now c.requires.exact c.args.shown.now.new.width c.args.reads.now c.noted_groups.new.reads c.bring_on.new.reads c.noted_groups.ensures.reads c.bring_on.ensures.reads
    c.args.kept.now c.begin.new.self c.bring_on.new.self c.in_ok-begin.ensures.made c.in_ok-bring_on.ensures.made (ap (λ (table : PlainTable). table.width) c.requires.shown) c.in_ok-firsts.firsts c.in_ok-firsts.ensures.rising
    (λ first. c.in_ok-firsts.ensures.firsts first ∙ ap (list_any (starts_numbered c.bring_on.new.self.rows first)) c.numbers.ensures ∙ c.in_ok-bring_on.ensures.firsts first)
    c.group_change.new.reads c.group_change.ensures.reads
