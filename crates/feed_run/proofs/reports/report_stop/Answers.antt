use Rattle.std.proofs.Common.{◌≡◌, ℕ, List, sym, subst}
use Rattle.std.specs.Prelude.{IfOk}
use Rattle.tick_io.specs.Counts.{Rose}
use Rattle.feed_run.{specs.declared.refusal.LoadStop.LoadStop, specs.Answers.EndsByStop, specs.Wholes.unread_record}
use Rattle.feed_run.proofs.reports.report_stop.Goals as goal

pub returns-in-Unread-clause-ends : goal.returns-in-Unread-clause-ends
returns-in-Unread-clause-ends g c =
    subst (λ (of : LoadStop). EndsByStop of (Rose (g.S.Sink.failures c.args.out.now) (g.S.Sink.failures c.report.new.out)) (g.S.Sink.bytes c.args.out.now) (g.S.Sink.bytes c.report.new.out) c.report.result) (sym c.in-Unread.is)
    (c.report.ensures.ends (unread_record c.in-Unread.name) (subst (λ (name : List ℕ). IfOk c.unread_record.result (λ fields. fields ≡ unread_record name)) c.as_str.ensures c.unread_record.ensures))
