-- Numbers, and the sums of their blocks: those of the first 64 numbers, of the next 64, and so on.
use Rattle.std.specs.Prelude.{ℕ, ◌≡◌, ◌+◌, ◌*◌, ◌^◌, ◌<◌, ◌≤◌, List, length, take, slice_index, sum}

-- a block's sum is what it adds to the sum of the numbers before it
abbrev pub IsSum : List ℕ → ℕ → ℕ → Type 0
IsSum numbers block total = sum (take (block * 64) numbers) + total ≡ sum (take (block * 64 + 64) numbers)

-- each number is in a block, no block is empty, and each has its sum
pub record AreBlocks (numbers blocks : List ℕ) : Type 0 where
  pub cover : length numbers ≤ length blocks * 64
  pub needed : length blocks * 64 < length numbers + 64
  pub sums : (block : ℕ) → block < length blocks → IsSum numbers block (slice_index blocks block)

pub record AreCounts (numbers blocks : List ℕ) (total : ℕ) : Type 0 where
  pub summed : AreBlocks numbers blocks
  pub total_is : total ≡ sum numbers
  pub fits : total < 2 ^ 64
