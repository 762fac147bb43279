use Rattle.std.proofs.Common.{◌≡◌, sym, ◌∙◌, subst, ℤ, List, w64, SFits, to_z-of_z, rules}
use Rattle.std.{specs.Prelude.{Result, Ok, Err}, specs.Str.IsUtf8, proofs.lemmas.Fmt.{parse-signed_decimal, IsAscii-signed}, proofs.lemmas.Str.IsUtf8-from_ascii}
use Rattle.update_text.proofs.read_fields.signed_of.Goals as goal

ok_same : {E : Type 0} (a b : ℤ) (r : Result ℤ E) → r ≡ Ok a → r ≡ Ok b → a ≡ b
ok_same a b r e f = cc

err_is_ok : {E : Type 0} (fault : E) (b : ℤ) (r : Result ℤ E) → r ≡ Err fault → r ≡ Ok b → ⊥
err_is_ok fault b r e f = cc

pub returns-in-Ok-parse : goal.returns-in-Ok-parse
returns-in-Ok-parse c number fits told =
    let own : SFits w64 c.in-Ok-parse.number = search rules in
    to_z-of_z own ∙ ok_same c.in-Ok-parse.number number c.parse.result c.in-Ok-parse.is (parse-signed_decimal w64 number c.in-Ok.digits.now c.parse.result fits fits.sfits (c.in-Ok.ensures.cases.0 ∙ told) c.parse.ensures.value.0)

pub returns-in-Err-parse : goal.returns-in-Err-parse
returns-in-Err-parse c number fits told = absurd (err_is_ok c.in-Err-parse.field-0 number c.parse.result c.in-Err-parse.is (parse-signed_decimal w64 number c.in-Ok.digits.now c.parse.result fits fits.sfits (c.in-Ok.ensures.cases.0 ∙ told) c.parse.ensures.value.0))

pub returns-in-Err : goal.returns-in-Err
returns-in-Err c number fits told = absurd (c.in-Err.ensures.cases.0 (subst IsUtf8 (sym told) (IsUtf8-from_ascii _ (IsAscii-signed number fits.sfits))))
