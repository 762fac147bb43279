-- What is said of a load.
use Rattle.std.specs.Prelude.{ℕ, ⊤, Result, Ok, Err}
use Rattle.tick_io.{specs.declared.inputs.LoadFault.LoadFault, specs.declared.inputs.LoadFault.TheVariants.{Memory, TooLong, Failed}}

-- this holds of the number of bytes seen, where a load was refused as too long
abbrev pub IfTooLong : {T : Type 0} → Result T LoadFault → (ℕ → Type 0) → Type 0
IfTooLong (Ok loaded) P = ⊤
IfTooLong (Err Memory) P = ⊤
IfTooLong (Err (TooLong seen)) P = P seen
IfTooLong (Err Failed) P = ⊤

-- this holds unless the load failed
abbrev pub UnlessFailed : {T : Type 0} → Result T LoadFault → Type 0 → Type 0
UnlessFailed (Ok loaded) P = P
UnlessFailed (Err Memory) P = P
UnlessFailed (Err (TooLong seen)) P = P
UnlessFailed (Err Failed) P = ⊤
