use Rattle.std.proofs.Common.{◌≡◌, ℕ, List, ◌∷◌, ◌++◌, true, ◌≤◌, length}
use Rattle.std.specs.Prelude.{flat_map}
use Rattle.tick_model.specs.Texts.{doubled}
use Rattle.update_text.specs.Reading.{begins_with_end}
use Rattle.update_text.proofs.read_fields.read_quoted.Given as goal

-- what is still to come of a field that is told
abbrev pub invariant-loop-byte : goal.invariant-loop-byte
invariant-loop-byte l = record {
  shorter : length l.rest ≤ length l.fn.bytes;
  told :
      (told rest : List ℕ) → begins_with_end rest ≡ true → l.fn.bytes ≡ flat_map doubled told ++ 34 ∷ rest →
      (todo : List ℕ) × (l.rest ≡ flat_map doubled todo ++ 34 ∷ rest) × (l.field.items ++ todo ≡ l.fn.field.items ++ told);
}

abbrev pub decreases-loop-byte : goal.decreases-loop-byte
decreases-loop-byte l = length l.rest
