use Rattle.std.proofs.Common.{length, rules}
use Rattle.std.proofs.lemmas.Result.{err_from_is_err_and}
use Rattle.script_lines.proofs.TokenLemmas.{not_empty, reads_bad, reads_token, reads_blank, rest_shorter}
use Rattle.script_lines.proofs.lexer.read_tokens.Goals as goal

pub returns-in_err-token : goal.returns-in_err-token
returns-in_err-token c =
    let p = err_from_is_err_and c.from_residual.result c.from_residual.ensures.1 in
    rw (p.1, p.2)
    (reads_bad c.args.line.now c.loop-rest.rest.now c.loop-rest.tokens.items c.in_err-token.field-0.0 c.loop-rest.invariant.1 (not_empty (length c.loop-rest.rest.now) (search rules)) c.in_err-token.ensures)

pub loop-rest-smaller-in_ok-push : goal.loop-rest-smaller-in_ok-push
loop-rest-smaller-in_ok-push c = rest_shorter c.loop-rest.rest.now c.in_ok-token.after.now c.in_ok-token.token c.in_ok-token.ensures

pub loop-rest-smaller : goal.loop-rest-smaller
loop-rest-smaller c = rest_shorter c.loop-rest.rest.now c.in_ok-token.after.now c.in_ok-token.token c.in_ok-token.ensures

pub loop-rest-preserved-in_ok-push : goal.loop-rest-preserved-in_ok-push
loop-rest-preserved-in_ok-push c =
    let read = rw c.in-Some.is at c.in_ok-token.ensures in
    (search rules, rw c.in_ok-push.ensures.items (reads_token c.args.line.now c.loop-rest.rest.now c.in_ok-token.after.now c.loop-rest.tokens.items c.in-Some.token c.loop-rest.invariant.1 read))

pub loop-rest-preserved : goal.loop-rest-preserved
loop-rest-preserved c =
    let read = rw c.in_default.is at c.in_ok-token.ensures in
    (search rules, reads_blank c.args.line.now c.loop-rest.rest.now c.in_ok-token.after.now c.loop-rest.tokens.items c.loop-rest.invariant.1 read)
