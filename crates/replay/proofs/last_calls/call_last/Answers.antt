use Rattle.std.proofs.Common.{◌≡◌, ◌+◌, ◌≤◌, [], ◌∷◌, arith, subst}
use Rattle.snapshot_store.specs.Looks.{latest}
use Rattle.replay.proofs.Keeping.{kept_later, look_later, on_ok_both, tried_later}
use Rattle.replay.proofs.last_calls.call_last.Goals as goal

pub take-requires-clause-reader : goal.take-requires-clause-reader
take-requires-clause-reader g c =
    let before = c.args.reader.now in
    let after = c.learn.new.caller in
    record {
      own = c.learn.ensures.own;
      kept_are = kept_later c.args.store.now.run c.args.number c.args.knobs.now.snaps (latest before.caller.looks) before.kept (c.requires.read.unless_short c.if-reader.false).kept_are (latest after.looks)
          (look_later before.caller.looks after.looks c.learn.ensures.look.0 c.learn.ensures.look.1 c.learn.ensures.rises);
      tried = tried_later c.args.store.now.run c.args.knobs.now.attempts c.args.number 0 [] before.caller.looks after.looks (c.learn.ensures.look.0 ∷ []) before.kept c.learn.ensures.look.1 (c.requires.read.unless_short c.if-reader.false).tried;
    }

pub returns-clause-ended : goal.returns-clause-ended
returns-clause-ended g c =
    on_ok_both c.take.result c.take.ensures.more c.take.ensures.not_older (λ more late. record { is = more; last_is = omega (arith, late, c.learn.ensures.told, c.note-note.ensures.step) })
