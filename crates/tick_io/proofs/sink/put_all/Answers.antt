use Rattle.std.proofs.Common.{◌≡◌, ap, ◌∙◌, arith, take, drop, length-drop}
use Rattle.std.{specs.Io.KnownBytes.append_known, proofs.lemmas.List.take_rest}
use Rattle.tick_io.proofs.Prefixes.{append_known-take}
use Rattle.tick_io.proofs.sink.put_all.Goals as goal

pub loop-done-preserved : goal.loop-done-preserved
loop-done-preserved g c =
    let piece = c.args.piece.now in
    let done = c.loop-done.done in
    let count = c.in_ok-done.field-0 in
    let sink = g.S.Sink in
    let appended : sink.bytes c.write.new.self ≡ append_known (sink.bytes c.loop-done.sink) (take count (drop done piece)) = rw (take_rest piece done) at c.in_ok-done.ensures.appended in
    record {
      within = omega (arith, c.in_ok-done.ensures.within, length-drop done piece);
      written = appended ∙ ap (λ known. append_known known (take count (drop done piece))) c.loop-done.invariant.written ∙ append_known-take _ done count piece;
      never_falls = omega (arith, c.in_ok-done.ensures.never_falls);
      steady = c.in_ok-done.ensures.steady ∙ c.loop-done.invariant.steady;
    }
