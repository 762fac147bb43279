-- Who works the steps of a run.
--     workers_of hands      how many hands there are
use Rattle.std.specs.Prelude.{ℕ}
use Rattle.replay.{specs.declared.hands.Hands.Hands, specs.declared.hands.Hands.TheVariants.{One, Crew}}

abbrev pub workers_of : Hands → ℕ
workers_of One = 1
workers_of (Crew crew) = crew.size
