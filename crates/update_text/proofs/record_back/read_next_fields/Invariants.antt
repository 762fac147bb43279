use Rattle.std.proofs.Common.{◌≡◌, ℕ, List, ◌++◌, length}
use Rattle.update_text.specs.Reading.{next_fields}
use Rattle.update_text.proofs.record_back.read_next_fields.Given as goal

-- the fields that are still to come
abbrev pub invariant-loop-alloc : goal.invariant-loop-alloc
invariant-loop-alloc l =
    (told : List (List ℕ)) (rest : List ℕ) → l.fn.bytes ≡ next_fields told rest → (todo : List (List ℕ)) × (l.rest ≡ next_fields todo rest) × (l.fields ++ todo ≡ l.fn.fields ++ told)

abbrev pub decreases-loop-alloc : goal.decreases-loop-alloc
decreases-loop-alloc l = length l.rest
