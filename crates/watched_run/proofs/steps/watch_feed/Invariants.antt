use Rattle.std.proofs.Common.{◌≡◌}
use Rattle.tick_model.specs.Spoiled.{good}
use Rattle.watched_run.{specs.Standing.{GoesOn, IsWatchedAt}, specs.ToCome.watch_until}
use Rattle.watched_run.proofs.steps.watch_feed.Given as goal

-- the steps up to this one are taken in, their messages are written, and the others are to come
abbrev pub invariant-loop-step : goal.invariant-loop-step
invariant-loop-step g l = record {
  stands : IsWatchedAt l.run l.watch l._step l.watching;
  told : GoesOn l.run l.watch (watch_until l.run l.watch (good l.run)) (g.S.Sink.bytes l.fn.out) (g.S.Sink.bytes l.out) l.watching;
  steady : g.S.Sink.failures l.out ≡ g.S.Sink.failures l.fn.out;
}
