-- How many keys two lists have together.
use Rattle.std.proofs.Common.{◌≡◌, ap, ◌∙◌, true, ◌||◌, ℕ, ◌+◌, ◌≤◌, arith, List, filter, length}
use Rattle.std.specs.List.{AllByRecursion}
use Rattle.key_lists.{specs.Keys.{is_among, IsRising}, proofs.Every.every_weaker, proofs.Rising.as_filter}
use Rattle.row_set.{proofs.United.{among-united, length-united, united_rises}, specs.Sets.united}
use Rattle.tick_laws.proofs.ResultCells.{length-filter_most}

-- as many as those of two lists among which all are
pub length-among_two : (xs ys zs : List ℕ) → IsRising xs → IsRising zs → AllByRecursion (λ x. (is_among x ys || is_among x zs) ≡ true) xs → length xs ≤ length ys + length zs
length-among_two xs ys zs r s h =
    let all : filter (λ x. is_among x xs) (united ys zs) ≡ xs =
    as_filter xs (united ys zs) r (united_rises ys zs s) (every_weaker (λ x. (is_among x ys || is_among x zs) ≡ true) (λ x. is_among x (united ys zs) ≡ true) xs (λ x e. among-united x ys zs ∙ e) h) in
    omega (arith, ap length all, length-filter_most (λ x. is_among x xs) (united ys zs), length-united ys zs)
