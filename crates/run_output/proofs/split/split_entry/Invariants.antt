use Rattle.std.proofs.Common.{◌≡◌, ℕ, List, false, ◌∷◌, ◌++◌, ◌<◌, length}
use Rattle.std.specs.List.{AllByRecursion}
use Rattle.tick_model.specs.Texts.{records_text}
use Rattle.run_output.specs.Splitting.{IsPart, begins_part}
use Rattle.run_output.proofs.split.split_entry.Given as goal

-- the parts that are still to come of the first entry
abbrev pub invariant-loop-rest : goal.invariant-loop-rest
invariant-loop-rest l = record {
  front : (front : List ℕ) × (l.fn.bytes ≡ front ++ l.rest);
  shorter : length l.rest < length l.fn.bytes;
  told :
      (first : List ℕ) (others : List (List ℕ)) (parts : List (List (List ℕ))) (rest : List ℕ) → AllByRecursion IsPart parts → begins_part rest ≡ false →
      l.fn.bytes ≡ records_text ((first ∷ others) ∷ parts) ++ rest → (todo : List (List (List ℕ))) × AllByRecursion IsPart todo × (l.rest ≡ records_text todo ++ rest);
}

abbrev pub decreases-loop-rest : goal.decreases-loop-rest
decreases-loop-rest l = length l.rest
