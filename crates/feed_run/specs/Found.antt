-- What is found where files are read one after the other.
--     Found X      nothing where a file that has to be read is not there; else the value, or the first refusal
--     after found next      what is found next, where nothing is refused or absent before
--     names_after found next      the names of the files that are read next, in the same case
use Rattle.std.specs.Prelude.{ℕ, List, [], Option, Some, None, Result, Ok, Err}
use Rattle.feed_run.specs.declared.refusal.Refusal.{Refusal}

abbrev pub Found : Type 0 → Type 0
Found X = Option (Result X Refusal)

abbrev pub after : {X Y : Type 0} → Found X → (X → Found Y) → Found Y
after None next = None
after (Some (Err refusal)) next = Some (Err refusal)
after (Some (Ok value)) next = next value

abbrev pub names_after : {X : Type 0} → Found X → (X → List (List ℕ)) → List (List ℕ)
names_after None next = []
names_after (Some (Err refusal)) next = []
names_after (Some (Ok value)) next = next value
