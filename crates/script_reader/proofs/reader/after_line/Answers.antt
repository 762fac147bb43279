use Rattle.std.proofs.Common.{◌∙◌, ap, sym, subst}
use Rattle.std.proofs.lemmas.Result.{err_from_is_err_and}
use Rattle.script_lines.specs.Answers.{◌>>=◌, Gives}
use Rattle.script_reader.{specs.Checks.said, specs.Scripts.after_line, specs.SoFar.so_far, proofs.Barely.said_bare, proofs.Each.fails_on}
use Rattle.script_reader.proofs.reader.after_line.Goals as goal

pub returns-in_err-line : goal.returns-in_err-line
unfolding after_line
returns-in_err-line c =
    let p = err_from_is_err_and c.from_residual.result c.from_residual.ensures.1 in
    rw (p.1, p.2) (fails_on c.in_err-line.field-0.0 _ (said (so_far c.args.known)) c.in_err-line.ensures)

pub returns : goal.returns
unfolding after_line
returns c =
    subst (Gives so_far c.take_in.result)
    (sym (ap (λ r. r >>= said (so_far c.args.known)) c.in_ok-line.ensures ∙ said_bare (so_far c.args.known) c.in_ok-line.line)) c.take_in.ensures
