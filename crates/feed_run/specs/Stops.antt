-- What a part of the program answers where there is no run.
--     Reads told failed read found view result      the value that is found, or why there is none
--     Asks told old new names result      the files of these names were asked for, or the first of them
--     OnFound result P      this holds where a value or a refusal is found
--     Loads told most content failed name result      the bytes of a file, or that it has too many, or why it has none
--     Says told view result      the value that a definition gives, or its refusal
--     IsRefusal refusal stop      the refusal, unless memory ran out
--     IsUnread name stop      a file of this name could not be read, unless memory ran out
use Rattle.std.{specs.Prelude.{◌≡◌, ◌<◌, ℕ, Bool, IsTrue, List, Option, Some, None, Result, Ok, Err, IsSomeAnd, length}, specs.Global.Vec}
use Rattle.tick_io.specs.Asked.{AsksFor, AsksSome}
use Rattle.feed_run.{specs.declared.refusal.Refusal.Refusal, specs.declared.refusal.LoadStop.LoadStop, specs.declared.refusal.LoadStop.TheVariants.{Memory, Unread, Refused}, specs.Found.Found}

-- where the contents are told, the value or the refusal is that which is found, and a file that could not be read is one that is read
abbrev pub Reads : {X Y : Type 0} → Bool → (List ℕ → Type 0) → (List ℕ → Type 0) → Found Y → (X → Y) → Result X LoadStop → Type 0
Reads told failed read found view (Ok value) = IsTrue told → found ≡ Some (Ok (view value))
Reads told failed read found view (Err Memory) = Unit {0}
Reads told failed read found view (Err (Unread name)) = failed name × (IsTrue told → read name)
Reads told failed read found view (Err (Refused refusal)) = IsTrue told → found ≡ Some (Err refusal)

-- where the contents are told, the names that are read were asked for, in their order: all of them where a value or a refusal is found
abbrev pub AsksUntil : Bool → Option (List (List ℕ)) → Option (List (List ℕ)) → List (List ℕ) → LoadStop → Type 0
AsksUntil told old new names Memory = IsTrue told → AsksSome old new names
AsksUntil told old new names (Unread name) = IsTrue told → AsksSome old new names
AsksUntil told old new names (Refused refusal) = IsTrue told → AsksFor old new names

abbrev pub Asks : {X : Type 0} → Bool → Option (List (List ℕ)) → Option (List (List ℕ)) → List (List ℕ) → Result X LoadStop → Type 0
Asks told old new names (Ok value) = IsTrue told → AsksFor old new names
Asks told old new names (Err stop) = AsksUntil told old new names stop

-- this holds where a refusal is found, or where a value or a refusal is
abbrev pub OnRefused : LoadStop → Type 0 → Type 0
OnRefused Memory P = Unit {0}
OnRefused (Unread name) P = Unit {0}
OnRefused (Refused refusal) P = P

abbrev pub OnFound : {X : Type 0} → Result X LoadStop → Type 0 → Type 0
OnFound (Ok value) P = P
OnFound (Err stop) P = OnRefused stop P

abbrev pub Loads : Bool → ℕ → Option (List ℕ) → Type 0 → List ℕ → Result (Option (Vec ℕ)) LoadStop → Type 0
Loads told most content failed name (Ok (Some bytes)) = IsTrue told → content ≡ Some bytes.items
Loads told most content failed name (Ok None) = IsTrue told → IsSomeAnd content (λ bytes. most < length bytes)
Loads told most content failed name (Err Memory) = Unit {0}
Loads told most content failed name (Err (Unread other)) = (other ≡ name) × failed
Loads told most content failed name (Err (Refused refusal)) = ⊥

abbrev pub IsRefusal : Refusal → LoadStop → Type 0
IsRefusal refusal Memory = Unit {0}
IsRefusal refusal (Unread name) = ⊥
IsRefusal refusal (Refused other) = other ≡ refusal

-- the value that a definition gives, or its refusal
abbrev pub Says : {X Y : Type 0} → Result Y Refusal → (X → Y) → Result X LoadStop → Type 0
Says told view (Ok value) = told ≡ Ok (view value)
Says told view (Err Memory) = Unit {0}
Says told view (Err (Unread name)) = ⊥
Says told view (Err (Refused refusal)) = told ≡ Err refusal

-- a file of this name could not be read, unless memory ran out
abbrev pub IsUnread : List ℕ → LoadStop → Type 0
IsUnread name Memory = Unit {0}
IsUnread name (Unread other) = other ≡ name
IsUnread name (Refused refusal) = ⊥
