-- What a definition gives, and what a call answers.
--     Answers told result      the call answers what the definition gives, or that memory ran out
use Rattle.std.specs.Prelude.{◌≡◌, ℕ, List, ◌∷◌, Result, Ok, Err}
use Rattle.feed_reader.{specs.declared.fault.TextFault.TextFault, specs.declared.fault.TextFault.TheVariants.{Memory, Refused}, specs.declared.fault.TextKind.TextKind}

-- what is read, or the number of the first refused record with the first kind that applies to it
abbrev pub Reading : Type 0 → Type 0
Reading X = Result X (ℕ × TextKind)

-- a fault is that of memory, or tells this first refused record
abbrev pub Refuses : {X : Type 0} → Reading X → TextFault → Type 0
Refuses told Memory = Unit {0}
Refuses told (Refused number kind) = told ≡ Err (number, kind)

abbrev pub Answers : {X : Type 0} → Reading X → Result X TextFault → Type 0
Answers told (Ok value) = told ≡ Ok value
Answers told (Err fault) = Refuses told fault

-- one more, before those that are read later
abbrev pub onto : {X : Type 0} → X → Reading (List X) → Reading (List X)
onto value (Ok later) = Ok (value ∷ later)
onto value (Err refused) = Err refused

-- what is read of the record of a number, and then of the later ones
abbrev pub read_on : {X : Type 0} → ℕ → Result X TextKind → (X → Reading (List X)) → Reading (List X)
read_on number (Ok value) later = onto value (later value)
read_on number (Err kind) later = Err (number, kind)
