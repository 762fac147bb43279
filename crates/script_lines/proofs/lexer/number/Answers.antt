use Rattle.std.proofs.Common.{◌≡◌, take, arith}
use Rattle.std.{specs.Int.w64, proofs.lemmas.Result.OkIff-at_err, proofs.lemmas.Str.Parse.parse_signed_digits}
use Rattle.script_lines.{specs.Tokens.{is_digit, run_len}, proofs.LexemeLemmas.{digits_boundary, own_digits, run_of_digits, some_digits, number_too_large}}
use Rattle.script_lines.proofs.lexer.number.Goals as goal

pub split_at-requires : goal.split_at-requires
split_at-requires c = digits_boundary c.args.text.now c.digits_len.result c.utf8.text (rw c.as_bytes.ensures.value at c.digits_len.ensures)

pub returns-in-Err : goal.returns-in-Err
returns-in-Err c =
    let text = c.args.text.now in
    let n = c.digits_len.result in
    let digits = c.split_at.result.0.now in
    let is : n ≡ run_len is_digit text = rw c.as_bytes.ensures.value at c.digits_len.ensures in
    let some = some_digits text n c.requires is in
    let front : digits ≡ take n text = c.split_at.ensures.front in
    let not_read = OkIff-at_err c.parse.result _ _ c.in-Err.field-0 (parse_signed_digits own_digits w64 digits c.parse.result c.parse.ensures.value.0 (rw front (run_of_digits text n is))) c.in-Err.is in
    number_too_large text n c.requires is (λ fits. not_read (omega (arith, c.split_at.ensures.front_len), rw front fits))
