use Rattle.std.proofs.Common.{◌≡◌, sym, ◌∙◌, subst, ℕ, List}
use Rattle.std.{specs.Prelude.{Result, Ok, Err}, specs.Str.IsUtf8, proofs.lemmas.Fmt.{parse-decimal, IsAscii-decimal}, proofs.lemmas.Str.IsUtf8-from_ascii}
use Rattle.update_text.proofs.read_fields.number_of.Goals as goal

ok_same : {E : Type 0} (a b : ℕ) (r : Result ℕ E) → r ≡ Ok a → r ≡ Ok b → a ≡ b
ok_same a b r e f = cc

err_is_ok : {E : Type 0} (fault : E) (b : ℕ) (r : Result ℕ E) → r ≡ Err fault → r ≡ Ok b → ⊥
err_is_ok fault b r e f = cc

pub returns-in-Ok-parse : goal.returns-in-Ok-parse
returns-in-Ok-parse c number small told = ok_same c.in-Ok-parse.number number c.parse.result c.in-Ok-parse.is (parse-decimal 64 number c.in-Ok.digits.now c.parse.result small small (c.in-Ok.ensures.cases.0 ∙ told) c.parse.ensures.value.0)

pub returns-in-Err-parse : goal.returns-in-Err-parse
returns-in-Err-parse c number small told = absurd (err_is_ok c.in-Err-parse.field-0 number c.parse.result c.in-Err-parse.is (parse-decimal 64 number c.in-Ok.digits.now c.parse.result small small (c.in-Ok.ensures.cases.0 ∙ told) c.parse.ensures.value.0))

pub returns-in-Err : goal.returns-in-Err
returns-in-Err c number small told = absurd (c.in-Err.ensures.cases.0 (subst IsUtf8 (sym told) (IsUtf8-from_ascii _ (IsAscii-decimal number small))))
