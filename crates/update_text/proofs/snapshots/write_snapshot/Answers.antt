use Rattle.std.proofs.Common.{ap, ◌∙◌, subst, rules}
use Rattle.std.specs.Io.KnownBytes.{append_known}
use Rattle.tick_io.specs.Written.{AppendsPrefix}
use Rattle.update_text.proofs.snapshots.write_snapshot.Goals as goal

pub returns-in_err-put_all-clause-err : goal.returns-in_err-put_all-clause-err
returns-in_err-put_all-clause-err g c table are =
    let same = c.as_slice.ensures.value ∙ c.in_ok-text.ensures table are in
    let front = subst (AppendsPrefix (g.S.Sink.bytes c.args.sink.now) (g.S.Sink.bytes c.put_all.new.sink)) same c.in_err-put_all.ensures.err in
    search (rules, front)

pub returns-clause-whole : goal.returns-clause-whole
returns-clause-whole g c table are =
    c.in_ok-put_all.ensures.whole ∙ ap (append_known (g.S.Sink.bytes c.args.sink.now)) (c.as_slice.ensures.value ∙ c.in_ok-text.ensures table are)
