-- Numbers of columns, one after the other.
use Rattle.std.proofs.Common.{◌≡◌, refl, sym, ap, ◌∙◌, ℕ, zero, suc, ◌+◌, ◌++◌, add-one, add-zero, zero-add, arith, List, [], ◌∷◌}
use Rattle.std.specs.List.{range_with_len}

one_more : (from count : ℕ) → range_with_len from (suc count) ≡ range_with_len from count ++ (from + count) ∷ []
one_more from zero = ap (λ n. n ∷ []) (sym (add-zero from))
one_more from (suc count) =
    let last : from + 1 + count ≡ from + suc count = omega arith in
    ap (λ numbers. from ∷ numbers) (one_more (from + 1) count ∙ ap (λ n. range_with_len (from + 1) count ++ n ∷ []) last)

pub numbers_more : (count : ℕ) → range_with_len 0 (count + 1) ≡ range_with_len 0 count ++ count ∷ []
numbers_more count = ap (range_with_len 0) (add-one count) ∙ one_more 0 count ∙ ap (λ n. range_with_len 0 count ++ n ∷ []) (zero-add count)
