-- Sums of the first numbers of a list, when a number becomes another, comes or leaves, and the sums of blocks.

use Rattle.std.{proofs.lemmas.Bool.{cases_lt, cases_order}, proofs.lemmas.List.take-set-le, proofs.lemmas.List.Sums.{sum_by-cons, sum_by_more, sum_by-drop_more, sum_by-take-le, sum_by-set}}
use Rattle.std.proofs.Common.{inl, inr, min, zero-add, length-set, get_or-set_same, get_or-set_other, ◌≡◌, ap, sym, ◌∙◌, subst, refl, ℕ, zero, suc, ◌+◌, ◌-◌, ◌*◌, ◌^◌, ◌<◌, ◌≤◌, arith, List, [], ◌∷◌, length, take, drop, get_or, set, sum, length-drop, take_all}
use Rattle.chunk_list.specs.Blocks.{IsSum, AreBlocks, AreCounts}

pub sum-cons : (x : ℕ) (xs : List ℕ) → sum (x ∷ xs) ≡ x + sum xs
sum-cons x xs = sum_by-cons (λ y. y) x xs

-- a list whose sum is above a number is not empty
pub some_summed : (xs : List ℕ) (n : ℕ) → n < sum xs → 0 < length xs
some_summed [] n lt = absurd (omega arith)
some_summed (x ∷ xs) n lt = omega arith

pub next_index : (xs : List ℕ) (i rest : ℕ) → i < length xs → rest < sum (drop i xs) → get_or xs i 0 ≤ rest → i + 1 < length xs
next_index xs i rest lt within le =
    let more = sum_by-drop_more (λ y. y) xs i 0 lt in
    let some = some_summed (drop (i + 1) xs) (rest - get_or xs i 0) (omega (arith, more)) in
    omega (arith, some, length-drop (i + 1) xs)

pub next_within : (xs : List ℕ) (i rest : ℕ) → i < length xs → rest < sum (drop i xs) → get_or xs i 0 ≤ rest → rest - get_or xs i 0 < sum (drop (i + 1) xs)
next_within xs i rest lt within le = omega (arith, sum_by-drop_more (λ y. y) xs i 0 lt)

pub next_sum : (xs : List ℕ) (i rest n : ℕ) → i < length xs → get_or xs i 0 ≤ rest → sum (take i xs) + rest ≡ n → sum (take (i + 1) xs) + (rest - get_or xs i 0) ≡ n
next_sum xs i rest n lt le e = omega (arith, sum_by_more (λ y. y) xs i 0 lt)

-- the first blocks have the sum of their numbers
pub blocks_sum : (numbers blocks : List ℕ) → ((block : ℕ) → block < length blocks → IsSum numbers block (get_or blocks block 0)) → (n : ℕ) → n ≤ length blocks → sum (take n blocks) ≡ sum (take (n * 64) numbers)
blocks_sum numbers blocks h zero le = refl
blocks_sum numbers blocks h (suc n) le =
    let next : suc n ≡ n + 1 = omega arith in
    let far : suc n * 64 ≡ n * 64 + 64 = omega arith in
    let lt : n < length blocks = omega arith in
    ap (λ k. sum (take k blocks)) next
    ∙ sum_by_more (λ y. y) blocks n 0 lt
    ∙ ap (λ s. s + get_or blocks n 0) (blocks_sum numbers blocks h n (omega arith))
    ∙ h n lt
    ∙ ap (λ k. sum (take k numbers)) (sym far)

pub all_blocks : (numbers blocks : List ℕ) → AreBlocks numbers blocks → sum blocks ≡ sum numbers
all_blocks numbers blocks are =
    ap sum (sym (take_all (length blocks) blocks (omega arith)))
    ∙ blocks_sum numbers blocks are.sums (length blocks) (omega arith)
    ∙ ap sum (take_all (length blocks * 64) numbers are.cover)

-- the sum of the first numbers, and of those from there to a later index
pub sum_between : (xs : List ℕ) (i j : ℕ) → i ≤ j → sum (take i xs) + sum (take (j - i) (drop i xs)) ≡ sum (take j xs)
sum_between xs zero j le =
    let same : j - 0 ≡ j = omega arith in
    ap (λ (k : ℕ). 0 + sum (take k xs)) same ∙ zero-add (sum (take j xs))
sum_between [] (suc i) j le =
    ap (λ (ys : List ℕ). 0 + sum ys) (take_all (j - suc i) [] (omega arith)) ∙ sym (ap sum (take_all j [] (omega arith)))
sum_between (x ∷ xs) (suc i) zero le = absurd (omega arith)
sum_between (x ∷ xs) (suc i) (suc j) le =
    let less : suc j - suc i ≡ j - i = omega arith in
    omega (arith, sum_between xs i j (omega arith), ap (λ (k : ℕ). sum (take k (drop i xs))) less, sum-cons x (take i xs), sum-cons x (take j xs))

-- a number becomes another
pub sum_set : (xs : List ℕ) (k i v : ℕ) → i < length xs → i < k → sum (take k (set xs i v)) + get_or xs i 0 ≡ sum (take k xs) + v
sum_set [] k i v lt within = absurd (omega arith)
sum_set (x ∷ xs) zero i v lt within = absurd (omega arith)
sum_set (x ∷ xs) (suc k) zero v lt within = omega (arith, sum-cons v (take k xs), sum-cons x (take k xs))
sum_set (x ∷ xs) (suc k) (suc i) v lt within =
    omega (arith, sum-cons x (take k (set xs i v)), sum-cons x (take k xs), sum_set xs k i v (omega arith) (omega arith))

pub sum_unset : (xs : List ℕ) (k i v : ℕ) → k ≤ i → sum (take k (set xs i v)) ≡ sum (take k xs)
sum_unset xs k i v le = ap sum (take-set-le k xs i v le)

-- a number and the sum of its block become others
set_sum : (numbers blocks : List ℕ) (index block number total : ℕ) → AreBlocks numbers blocks → index < length numbers → block < length blocks → block * 64 ≤ index → index < block * 64 + 64 → total + get_or numbers index 0 ≡ get_or blocks block 0 + number
    → (k : ℕ) → k < length blocks → IsSum (set numbers index number) k (get_or (set blocks block total) k 0)
set_sum numbers blocks index block number total are lt in_block from to e k within =
    let old = are.sums k within in
    elim (cases_order k block) [
      | inl same ↦
          subst (λ n. IsSum (set numbers index number) n (get_or (set blocks block total) n 0)) (sym same)
          (omega (arith, are.sums block in_block, get_or-set_same blocks block total 0 in_block, sum_unset numbers (block * 64) index number from, sum_set numbers (block * 64 + 64) index number lt to))
      | inr other ↦ elim other [
        | inl below ↦
            let apart : k ≡ block → ⊥ = omega arith in
            omega (arith, old, get_or-set_other blocks block k total 0 apart, sum_unset numbers (k * 64) index number (omega arith), sum_unset numbers (k * 64 + 64) index number (omega arith))
        | inr above ↦
            let apart : k ≡ block → ⊥ = omega arith in
            omega (arith, old, get_or-set_other blocks block k total 0 apart, sum_set numbers (k * 64) index number lt (omega arith), sum_set numbers (k * 64 + 64) index number lt (omega arith))
      ]
    ]

pub set_kept : (numbers blocks : List ℕ) (all index block number total next : ℕ) → AreCounts numbers blocks all → index < length numbers → block * 64 ≤ index → index < block * 64 + 64 → total + get_or numbers index 0 ≡ get_or blocks block 0 + number → next + get_or numbers index 0 ≡ all + number → next < 2 ^ 64 → AreCounts (set numbers index number) (set blocks block total) next
set_kept numbers blocks all index block number total next are lt from to e f fits =
    let in_block : block < length blocks = omega (arith, are.summed.cover) in
    record {
      summed = record {
        cover = omega (arith, are.summed.cover, length-set numbers index number, length-set blocks block total);
        needed = omega (arith, are.summed.needed, length-set numbers index number, length-set blocks block total);
        sums = λ k within. set_sum numbers blocks index block number total are.summed lt in_block from to e k (omega (arith, within, length-set blocks block total));
      };
      total_is = omega (arith, f, are.total_is, sum_by-set (λ y. y) numbers index number 0 lt);
      fits = fits;
    }

pub number_at : (xs : List ℕ) (i d : ℕ) → i < length xs → d ≡ get_or xs i d → d ≡ get_or xs i 0
number_at [] i d lt e = absurd (omega arith)
number_at (x ∷ xs) zero d lt e = e
number_at (x ∷ xs) (suc i) d lt e = number_at xs i d (omega arith) e

-- a number is at most the sum of its block, and this at most the sum of all
pub at_most_block : (numbers blocks : List ℕ) (index block : ℕ) → AreBlocks numbers blocks → index < length numbers → block * 64 ≤ index → index < block * 64 + 64 → get_or numbers index 0 ≤ get_or blocks block 0
at_most_block numbers blocks index block are lt from to =
    let in_block : block < length blocks = omega (arith, are.cover) in
    omega (arith, are.sums block in_block, sum_between numbers (block * 64) index from, sum_by_more (λ y. y) numbers index 0 lt, sum_between numbers (index + 1) (block * 64 + 64) (omega arith))

pub block_fits : (numbers blocks : List ℕ) (block : ℕ) → AreBlocks numbers blocks → block < length blocks → get_or blocks block 0 ≤ sum numbers
block_fits numbers blocks block are lt = omega (arith, are.sums block lt, sum_by-take-le (λ y. y) numbers (block * 64 + 64))

pub take_end : (xs : List ℕ) (n m : ℕ) → m ≡ min (length xs) n → take m xs ≡ take n xs
take_end xs n m e =
    elim (cases_lt n (length xs)) [
      | inl below ↦ ap (λ k. take k xs) (omega arith)
      | inr past ↦ take_all m xs (omega arith) ∙ sym (take_all n xs past)
    ]

pub sum_add : (xs : List ℕ) (i n : ℕ) → sum (take i xs) + sum (take n (drop i xs)) ≡ sum (take (i + n) xs)
sum_add xs i n =
    let less : i + n - i ≡ n = omega arith in
    ap (λ k. sum (take i xs) + sum (take k (drop i xs))) (sym less) ∙ sum_between xs i (i + n) (omega arith)
