-- Runs of neighbouring keys that are paired.
--     IsPairRun old new old_from new_from run      the run has the first keys of both from these on, and the keys behind it are left
use Rattle.std.{specs.Prelude.{◌≡◌, ℕ, ◌+◌, ◌^◌, ◌≤◌, List, ◌++◌}, specs.List.range_with_len}
use Rattle.shift_data.{specs.declared.pairs.PairRun.PairRun, specs.Parts.from_on}

pub record IsPairRun (old new : List ℕ) (old_from new_from : ℕ) (run : PairRun) : Type 0 where
  pub some : 1 ≤ run.count
  pub above : old_from ≤ run.old
  pub old_small : run.old + run.count ≤ 2 ^ 62
  pub new_small : run.new + run.count ≤ 2 ^ 62
  pub old_front : from_on old_from old ≡ range_with_len run.old run.count ++ from_on (run.old + run.count) old
  pub new_front : from_on new_from new ≡ range_with_len run.new run.count ++ from_on (run.new + run.count) new
