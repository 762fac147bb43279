-- A count that rose within some calls rose within all of them, since no call lets it fall.
use Rattle.std.proofs.Common.{◌≤◌, ℕ, arith}
use Rattle.tick_io.specs.Counts.{Rose}

-- what rose in later calls rose in all
pub rose_earlier : (before old new : ℕ) → before ≤ old → Rose old new → Rose before new
rose_earlier before old new first rose = grind arith
