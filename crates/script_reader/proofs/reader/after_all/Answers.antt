use Rattle.std.proofs.Common.{◌≡◌, ◌∙◌, ap, sym, subst, arith, ◌∷◌}
use Rattle.std.proofs.lemmas.Result.{err_from_is_err_and}
use Rattle.script_lines.specs.Lines.{lines_of}
use Rattle.script_reader.{specs.Refusals.Refuses, specs.Scripts.{after_lines, nothing}, specs.SoFar.so_far, proofs.Fold.{lines_left, bytes_left, next_line, fewer_bytes, no_lines}}
use Rattle.script_reader.proofs.reader.after_all.Goals as goal

pub returns-in_err-known-clause-refused : goal.returns-in_err-known-clause-refused
returns-in_err-known-clause-refused c =
    let p = err_from_is_err_and c.from_residual.result c.from_residual.ensures.1 in
    let after = c.first_line.result.1 in
    let line = c.first_line.result.0.now in
    let so_far_is : after_lines c.loop-rest.number (so_far c.loop-rest.known) (line ∷ lines_left after) ≡ after_lines 1 nothing (lines_of c.args.bytes.now) =
    ap (after_lines c.loop-rest.number (so_far c.loop-rest.known)) (sym (next_line after c.in-Some.text.now line c.first_line.ensures.next c.first_line.ensures.last) ∙ ap lines_left (sym c.in-Some.is)) ∙ c.loop-rest.invariant.0 in
    rw (p.1, p.2) (subst (λ answer. Refuses answer c.in_err-known.field-0.0) so_far_is (c.in_err-known.ensures.refused (lines_left after)))

pub loop-rest-preserved : goal.loop-rest-preserved
loop-rest-preserved c =
    let after = c.first_line.result.1 in
    let line = c.first_line.result.0.now in
    let so_far_is : after_lines c.loop-rest.number (so_far c.loop-rest.known) (line ∷ lines_left after) ≡ after_lines 1 nothing (lines_of c.args.bytes.now) =
    ap (after_lines c.loop-rest.number (so_far c.loop-rest.known)) (sym (next_line after c.in-Some.text.now line c.first_line.ensures.next c.first_line.ensures.last) ∙ ap lines_left (sym c.in-Some.is)) ∙ c.loop-rest.invariant.0 in
    (sym (c.in_ok-known.ensures.said (lines_left after)) ∙ so_far_is, omega (arith, fewer_bytes after c.in-Some.text.now c.first_line.ensures.shorter, ap bytes_left c.in-Some.is, c.loop-rest.invariant.1))

pub returns-clause-script : goal.returns-clause-script
returns-clause-script c =
    sym c.loop-rest.invariant.0 ∙ ap (λ rest. after_lines c.loop-rest.number (so_far c.loop-rest.known) (lines_left rest)) c.in_default.is ∙ no_lines c.loop-rest.number (so_far c.loop-rest.known)
