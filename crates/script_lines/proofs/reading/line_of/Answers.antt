use Rattle.std.proofs.Common.{◌∙◌, sym, ap}
use Rattle.std.proofs.lemmas.Result.{err_from_is_err_and}
use Rattle.script_lines.{specs.Grammar.line_at, proofs.LineLemmas.{line_of-not_text, line_of-skipped, line_of-tokens, line_of-no_tokens, line_of-no_form}}
use Rattle.script_lines.proofs.reading.line_of.Goals as goal

pub returns-in_default : goal.returns-in_default
returns-in_default c = line_of-not_text c.args.bytes.now c.in_default.ensures.cases.0

pub returns-then-is_skipped : goal.returns-then-is_skipped
returns-then-is_skipped c = line_of-skipped c.args.bytes.now c.in-Ok.ensures.cases.1 (sym c.if-is_skipped.ensures)

pub returns-in_err-read_tokens : goal.returns-in_err-read_tokens
returns-in_err-read_tokens c =
    let p = err_from_is_err_and c.from_residual.result c.from_residual.ensures.1 in
    let bytes = c.args.bytes.now in
    rw (p.1, p.2) (line_of-no_tokens c.in_err-read_tokens.field-0.0 bytes c.in-Ok.ensures.cases.1 (sym c.if-is_skipped.ensures) (rw c.in-Ok.ensures.cases.0 at c.in_err-read_tokens.ensures))

pub returns-in_err-line : goal.returns-in_err-line
returns-in_err-line c =
    let p = err_from_is_err_and c.from_residual-in_err-line.result c.from_residual-in_err-line.ensures.1 in
    let read = rw c.in-Ok.ensures.cases.0 at c.in_ok-read_tokens.ensures in
    rw (p.1, p.2)
    (line_of-no_form c.in_err-line.field-0.0 c.args.bytes.now c.read_tokens.new.tokens.items c.in-Ok.ensures.cases.1 (sym c.if-is_skipped.ensures) read (rw c.as_slice.ensures.value at c.in_err-line.ensures))

pub returns : goal.returns
returns c =
    let read = rw c.in-Ok.ensures.cases.0 at c.in_ok-read_tokens.ensures in
    line_of-tokens c.args.bytes.now c.read_tokens.new.tokens.items c.in-Ok.ensures.cases.1 (sym c.if-is_skipped.ensures) read
    ∙ ap line_at (sym c.as_slice.ensures.value)
    ∙ c.in_ok-line.ensures
