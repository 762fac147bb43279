-- The calls of an object, some of which fail by their number, from 1.
use Rattle.std.{specs.Prelude.{ℕ, Bool, List, ◌==◌, if◌then◌else◌}, specs.List.list_any}
use Rattle.tick_io.specs.Counts.{next_count}

-- the numbers of the calls that are to fail, how many calls were made, and how many of them failed
pub record Calls : Type 0 where
  pub failing : List ℕ
  pub made : ℕ
  pub failures : ℕ

-- no call was made
abbrev pub no_calls : List ℕ → Calls
no_calls failing = record { failing = failing; made = 0; failures = 0 }

-- whether the next call is one that is to fail
abbrev pub next_fails : Calls → Bool
next_fails calls = list_any (λ number. number == next_count calls.made) calls.failing

-- after one more call, which failed or not
abbrev pub after_call : Bool → Calls → Calls
after_call failed calls = record calls { made = next_count calls.made; failures = if failed then next_count calls.failures else calls.failures }
