use Rattle.std.proofs.Common.{◌≡◌, ◌+◌, ◌*◌, ◌-◌, get_or, true, false, sym, ap, ◌∙◌, arith, rules}
use Rattle.std.specs.Char.{is_ascii_digit}
use Rattle.feed_reader.proofs.NumberLemmas.{digits_more, number_more, number_small, number_stops}
use Rattle.feed_reader.proofs.cells.number.Goals as goal

pub returns-then-not-is_ascii_digit : goal.returns-then-not-is_ascii_digit
returns-then-not-is_ascii_digit c =
    let digits = c.args.digits.now in
    let not : is_ascii_digit (get_or digits c.loop-digit.digit-index 0) ≡ false = search rules in
    sym (number_stops c.args.limit digits c.loop-digit.digit-index c.loop-digit-test.true not)

pub overflow_mul-number : goal.overflow_mul-number
overflow_mul-number c =
    let small = number_small c.args.digits.now c.loop-digit.digit-index c.loop-digit.number c.loop-digit-test.true (omega arith) c.loop-digit.invariant.0 c.loop-digit.invariant.1 in
    record { fits = omega (arith, small) }

pub overflow_add-number : goal.overflow_add-number
overflow_add-number c =
    let small = number_small c.args.digits.now c.loop-digit.digit-index c.loop-digit.number c.loop-digit-test.true (omega arith) c.loop-digit.invariant.0 c.loop-digit.invariant.1 in
    record { fits = omega (arith, small, c.from.ensures) }

pub loop-digit-preserved : goal.loop-digit-preserved
loop-digit-preserved c =
    let digits = c.args.digits.now in
    let i = c.loop-digit.digit-index in
    let is : is_ascii_digit (get_or digits i 0) ≡ true = search rules in
    let worth : c.from.result ≡ get_or digits i 0 - 48 = search rules in (
      digits_more digits i c.loop-digit-test.true c.loop-digit.invariant.0 is,
      ap (λ n. c.loop-digit.number * 10 + n) worth ∙ number_more digits i c.loop-digit.number c.loop-digit-test.true is c.loop-digit.invariant.1,
    )
