-- What was written to a sink.
use Rattle.std.{specs.Prelude.{◌≡◌, ◌≤◌, ℕ, List, Option, length, take}, specs.Io.KnownBytes.append_known}
use Rattle.tick_io.specs.Calls.{Calls}

-- a prefix of the piece was appended
abbrev pub AppendsPrefix : Option (List ℕ) → Option (List ℕ) → List ℕ → Type 0
AppendsPrefix old new piece = (count : ℕ) × (count ≤ length piece) × (new ≡ append_known old (take count piece))

-- the bytes that a sink in memory took, and the calls that were made of it
pub record Recording : Type 0 where
  pub bytes : List ℕ
  pub calls : Calls
