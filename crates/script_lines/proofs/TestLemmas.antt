-- One more fact beside those so far, and one more conjunction in place of those so far.
use Rattle.std.proofs.Common.{◌≡◌, ℕ, suc, ◌-◌, ◌<◌, List, Some, Ok, ap, arith}
use Rattle.std.specs.Prelude.{codes}
use Rattle.script_lines.{specs.declared.line.Test.Test, specs.declared.token.Token.Token, specs.Formulas.{Reading, after_word, both_at, all_at, either_at}, specs.Bare.{and_of, or_of}}

pub one_more_fact : (fact : List Token → Reading Test) (most : ℕ) (left right both : Test) (ts rest after : List Token) → 0 < most → Some rest ≡ after_word (codes "and") ts → fact rest ≡ Ok (right, after) → both ≡ and_of left right → both_at fact most left ts ≡ both_at fact (most - 1) both after
unfolding both_at
one_more_fact fact most left right both ts rest after some found read made =
    let k : most ≡ suc (most - 1) = omega arith in
    rw (k, ← found, read, made) (ap (λ n. both_at fact n (and_of left right) after) (omega arith))

pub one_more_conjunction : (fact : List Token → Reading Test) (most : ℕ) (left right either : Test) (ts rest after : List Token) → 0 < most → Some rest ≡ after_word (codes "or") ts → all_at fact rest ≡ Ok (right, after) → either ≡ or_of left right → either_at fact most left ts ≡ either_at fact (most - 1) either after
unfolding either_at
one_more_conjunction fact most left right either ts rest after some found read made =
    let k : most ≡ suc (most - 1) = omega arith in
    rw (k, ← found, read, made) (ap (λ n. either_at fact n (or_of left right) after) (omega arith))
