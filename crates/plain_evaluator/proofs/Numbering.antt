-- Rows that get the keys 0, 1, 2 and so on, one after the other.
use Rattle.std.proofs.Common.{◌≡◌, ap, ◌∙◌, ℕ, zero, suc, ◌+◌, ◌<◌, arith, List, [], ◌∷◌, ◌++◌, take, drop, length, get_or, set}
use Rattle.tick_model.{specs.declared.table.PlainRow.PlainRow, specs.Sort.numbered}

abbrev keyed : ℕ → PlainRow → PlainRow
keyed key row = record { key = key; cells = row.cells }

-- one row more, of rows that are numbered up to it
step_from : (n : ℕ) (rows : List PlainRow) (i key : ℕ) (d : PlainRow) → i < length rows → key ≡ n + i
    → set (numbered n (take i rows) ++ drop i rows) i (keyed key (get_or (numbered n (take i rows) ++ drop i rows) i d)) ≡ numbered n (take (suc i) rows) ++ drop (suc i) rows
step_from n [] i key d h e = absurd (omega arith)
step_from n (row ∷ rows) zero key d h e = let same : key ≡ n = omega arith in ap (λ key. keyed key row ∷ rows) same
step_from n (row ∷ rows) (suc i) key d h e = ap (λ rest. keyed n row ∷ rest) (step_from (n + 1) rows i key d (omega arith) (omega arith))

pub numbered_more : (now rows : List PlainRow) (i : ℕ) (d : PlainRow) → i < length rows → now ≡ numbered 0 (take i rows) ++ drop i rows
    → set now i (record { key = i; cells = (get_or now i d).cells }) ≡ numbered 0 (take (i + 1) rows) ++ drop (i + 1) rows
numbered_more now rows i d h e =
    ap (λ (now : List PlainRow). set now i (keyed i (get_or now i d))) e ∙ step_from 0 rows i i d h (omega arith) ∙ ap (λ n. numbered 0 (take n rows) ++ drop n rows) one_more
  where
    one_more : suc i ≡ i + 1
    one_more = omega arith
