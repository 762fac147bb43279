use Rattle.std.proofs.Common.{ap, ap₂, sym, ◌∙◌, subst, ℕ, ◌+◌, ◌*◌, ◌≤◌, ◌≡◌}
use Rattle.std.{specs.Prelude.IfOk, proofs.lemmas.Result.IfOk-weaker}
use Rattle.head_tail.{specs.declared.end.End.End, specs.Ends.{Limit, end_table, ended}, proofs.Crossed.ended_is, proofs.Parts.end_part, proofs.ReadRows.end_reads}
use Rattle.tick_model.{specs.Changes.{Change, change_of}, specs.Updates.{Tick, between}}
use Rattle.row_changes.proofs.Comparing.{on_err}
use Rattle.shown_rows.specs.Shown.{through}
use Rattle.tick_table.specs.Exact.{counted, tick_of}
use Rattle.head_tail.proofs.end_rows.EndRows.change.Goals as goal

pub shown_change-requires-clause-old_part : goal.shown_change-requires-clause-old_part
shown_change-requires-clause-old_part g c = end_part g.E.AtEnd.end c.args.self.now.count c.args.input.now.old c.requires.exact.tick.old_table

pub shown_change-requires-clause-new_part : goal.shown_change-requires-clause-new_part
shown_change-requires-clause-new_part g c = end_part g.E.AtEnd.end c.args.self.now.count c.args.input.now.new c.requires.exact.tick.new_table

pub shown_change-requires-clause-leaving : goal.shown_change-requires-clause-leaving
shown_change-requires-clause-leaving g c =
    c.in_ok-crossing.ensures.leaving
    ∙ ap₂ (λ (end : End) (count : ℕ). (between (through (end_table end count) (tick_of c.args.input.now))).removed) c.end.ensures (ap (λ (limit : Limit). limit.count) c.self.view_is)

pub shown_change-requires-clause-coming : goal.shown_change-requires-clause-coming
shown_change-requires-clause-coming g c =
    c.in_ok-crossing.ensures.coming
    ∙ ap₂ (λ (end : End) (count : ℕ). (between (through (end_table end count) (tick_of c.args.input.now))).added) c.end.ensures (ap (λ (limit : Limit). limit.count) c.self.view_is)

pub returns-clause-change : goal.returns-clause-change
returns-clause-change g c =
    subst (λ (own : Tick). IfOk c.shown_change.result (λ change. change ≡ change_of own)) (ended_is g.E.AtEnd.end c.args.self.now.count (tick_of c.args.input.now)) c.shown_change.ensures.change

pub returns-clause-reads : goal.returns-clause-reads
returns-clause-reads g c =
    let t = c.args.input.now in
    let came =
    c.in_ok-crossing.ensures.coming
    ∙ ap₂ (λ (end : End) (count : ℕ). (between (through (end_table end count) (tick_of t))).added) c.end.ensures (ap (λ (limit : Limit). limit.count) c.self.view_is) in
    IfOk-weaker c.shown_change.result (λ change. change ≡ change_of (through (end_table g.E.AtEnd.end c.args.self.now.count) (tick_of t)))
    (λ change. c.shown_change.new.reads ≤ c.args.reads.now + 4 * (t.new.width + t.new.width) * (counted t.update + counted change.update))
    (λ change is.
    end_reads t.new.width c.args.reads.now c.shown_change.new.reads t.update change.update c.in_ok-crossing.crossing.coming
    c.shown_change.ensures.reads (came ∙ ap (λ (change : Change). change.update.added) (sym is))) c.shown_change.ensures.change

pub returns-clause-refused : goal.returns-clause-refused
returns-clause-refused g c =
    let t = c.args.input.now in
    let came =
    c.in_ok-crossing.ensures.coming
    ∙ ap₂ (λ (end : End) (count : ℕ). (between (through (end_table end count) (tick_of t))).added) c.end.ensures (ap (λ (limit : Limit). limit.count) c.self.view_is) in
    on_err c.shown_change.result
    (end_reads t.new.width c.args.reads.now c.shown_change.new.reads t.update (between (ended g.E.AtEnd.end c.args.self.now.count (tick_of t))) c.in_ok-crossing.crossing.coming
    c.shown_change.ensures.reads (came ∙ ap (λ (own : Tick). (between own).added) (ended_is g.E.AtEnd.end c.args.self.now.count (tick_of t))))
