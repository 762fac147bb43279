-- The least and the greatest cell of a column, cell by cell.
use Rattle.std.{specs.Prelude.{Option, Some, ℤ, if◌then◌else◌}, specs.Option.option_map_or}
use Rattle.tick_model.specs.Tables.{is_null}

-- what f has made of the cells so far, with one cell more, which counts where it holds something
abbrev pub with_present : (ℤ → ℤ → ℤ) → Option ℤ → ℤ → Option ℤ
with_present f so_far value = if is_null value then so_far else Some (option_map_or (λ known. f known value) so_far value)
