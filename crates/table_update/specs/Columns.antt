-- Sets of columns.
--     columns_of bits      the columns of a set, by the bits of a number
use Rattle.std.{specs.Prelude.{ℕ, ◌==◌, Bool, List, filter}, specs.Int.bit_at}
use Rattle.row_set.specs.Ranges.{keys_from}

abbrev pub has_bit : ℕ → ℕ → Bool
has_bit bits column = bit_at bits column == 1

unfoldable pub columns_of : ℕ → List ℕ
columns_of bits = filter (has_bit bits) (keys_from 0 31)
