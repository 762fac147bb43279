-- A set of keys whose ranges are passed in rising order.
--     IsPassing set ranges passed before      so many ranges of the set are passed, which hold this number of keys
use Rattle.std.specs.Prelude.{◌≡◌, ℕ, ◌≤◌, List, length}
use Rattle.row_set.{specs.declared.ranges.Range.Range, specs.Ranges.{AreApart, keys_before, keys_of}, specs.Sets.IsKeySet}

pub record IsPassing (set : List ℕ) (ranges : List Range) (passed before : ℕ) : Type 0 where
  pub key_set : IsKeySet set
  pub held : keys_of ranges ≡ set
  pub apart : AreApart 0 ranges
  pub within : passed ≤ length ranges
  pub count : before ≡ keys_before passed ranges
