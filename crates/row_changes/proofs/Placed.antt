-- Rows that are read one after the other, by their places.
use Rattle.std.proofs.Common.{ℕ, ◌+◌, ◌*◌, ◌<◌, ◌≤◌, arith}
use Rattle.std.proofs.Math.Nat.{mul-le-mul_left}

-- where one more row is read, which is one of so many, no more are read than all of them
pub reads_placed : (each first so_far more n all : ℕ) → so_far ≤ first + each * n → more ≤ so_far + each → n < all → more ≤ first + each * all
reads_placed each first so_far more n all h e less = omega (arith, h, e, mul-le-mul_left each few)
  where
    few : n + 1 ≤ all
    few = omega (arith, less)
