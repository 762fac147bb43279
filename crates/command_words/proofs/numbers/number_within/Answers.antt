use Rattle.std.proofs.Common.{sym, arith}
use Rattle.std.{proofs.lemmas.Result.OkIff-at_err, proofs.lemmas.Str.Parse.parse_digits}
use Rattle.command_words.proofs.NumberLemmas.{own_digits, numeral_digits, number_past}
use Rattle.command_words.proofs.numbers.number_within.Goals as goal

pub returns-in_default-3-clause-number : goal.returns-in_default-3-clause-number
returns-in_default-3-clause-number c =
    let text = c.args.text.now in
    let parsed = OkIff-at_err c.parse.result _ _ c.in_default.field-0 (parse_digits own_digits 32 text c.parse.result c.parse.ensures.value.0 (numeral_digits text (sym c.if-not-is_numeral.ensures))) c.in_default.is in
    number_past c.args.least c.args.most text (omega (arith, c.ranges.most.fits)) parsed
