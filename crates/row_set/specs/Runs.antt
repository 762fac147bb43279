-- Ranges behind places that are free, and the number of keys before each block of 16 places.
--     start_of starts block      the number of keys before a block, as the starts have it
--     AreStarts front all starts      what the starts are, where the first ranges are none: places that are free
--     AreCounted front all starts      and no start is missing
--     lying runs      the ranges
--     IsCounted runs      the keys before each block are counted
--     IsStored runs      how a set is kept
--     IsRoom more runs      there is room for some more ranges
use Rattle.std.specs.Prelude.{◌≡◌, ℕ, ◌+◌, ◌-◌, ◌*◌, ◌≤◌, List, ◌∷◌, length, drop, slice_index_or, vec_capacity}
use Rattle.row_set.{specs.declared.ranges.Range.Range, specs.declared.runs.Runs.Runs, specs.Ranges.{AreApart, keys_before}}

-- none before the first block
abbrev pub start_of : List ℕ → ℕ → ℕ
start_of starts block = slice_index_or (0 ∷ starts) block 0

pub record AreStarts (front : ℕ) (all : List Range) (starts : List ℕ) : Type 0 where
  pub counted : (block : ℕ) → block ≤ length starts → start_of starts block ≡ keys_before (16 * block - front) (drop front all)
  pub within : 16 * length starts ≤ length all - 1

pub record AreCounted (front : ℕ) (all : List Range) (starts : List ℕ) : Type 0 where
  pub free : front ≤ length all
  pub counts : AreStarts front all starts
  pub full : length all ≤ 16 * length starts + 16

abbrev pub lying : Runs → List Range
lying runs = drop runs.front runs.all.items

abbrev pub IsCounted : Runs → Type 0
IsCounted runs = AreCounted runs.front runs.all.items runs.starts.items

pub record IsStored (runs : Runs) : Type 0 where
  pub apart : AreApart 0 (lying runs)
  pub counted : IsCounted runs

pub record IsRoom (more : ℕ) (runs : Runs) : Type 0 where
  pub ranges : length runs.all.items + more ≤ vec_capacity runs.all
  pub starts : length runs.all.items + more ≤ 16 * vec_capacity runs.starts + 16
