-- What a reading function returned, against what reading gives.
--     x >>= f      goes on with f where x is there, and else is x's refusal
--     Gives view result read      the result, seen by view, is what reading gives, unless memory ran out
--     Reads view result read      the same of a reading of the grammar, which refuses as a bad line alone
--     Tells view result read      the same of a reading that needs no memory
use Rattle.std.specs.Prelude.{◌≡◌, Option, Some, None, Result, Ok, Err}
use Rattle.script_lines.{specs.declared.fault.LineFault.LineFault, specs.declared.fault.Misread.Misread, specs.declared.fault.ScriptKind.ScriptKind}
use Rattle.script_lines.specs.declared.fault.LineFault.TheVariants as faults
use Rattle.script_lines.specs.declared.fault.Misread.TheVariants as misses
use Rattle.script_lines.specs.declared.fault.ScriptKind.TheVariants as kinds

infixl 10 ◌>>=◌
abbrev pub ◌>>=◌ : {A B : Type 0} → Result A ScriptKind → (A → Result B ScriptKind) → Result B ScriptKind
(Ok x) >>= f = f x
(Err kind) >>= f = Err kind

-- f of what is there, or else the other
abbrev pub when_some : {A B : Type 0} → Option A → (A → B) → B → B
when_some None f other = other
when_some (Some x) f other = f x

abbrev pub Fails : {Y : Type 0} → LineFault → Result Y ScriptKind → Type 0
Fails faults.Memory read = Unit {0}
Fails (faults.Refused kind) read = read ≡ Err kind

abbrev pub Gives : {X Y : Type 0} → (X → Y) → Result X LineFault → Result Y ScriptKind → Type 0
Gives view (Ok x) read = read ≡ Ok (view x)
Gives view (Err fault) read = Fails fault read

abbrev pub Misses : {Y : Type 0} → Misread → Result Y ScriptKind → Type 0
Misses misses.Memory read = Unit {0}
Misses misses.BadLine read = read ≡ Err kinds.BadLine

abbrev pub Reads : {X Y : Type 0} → (X → Y) → Result X Misread → Result Y ScriptKind → Type 0
Reads view (Ok x) read = read ≡ Ok (view x)
Reads view (Err miss) read = Misses miss read

abbrev pub Tells : {X Y : Type 0} → (X → Y) → Result X ScriptKind → Result Y ScriptKind → Type 0
Tells view (Ok x) read = read ≡ Ok (view x)
Tells view (Err kind) read = read ≡ Err kind

abbrev pub fault_of : Misread → LineFault
fault_of misses.Memory = faults.Memory
fault_of misses.BadLine = faults.Refused kinds.BadLine
