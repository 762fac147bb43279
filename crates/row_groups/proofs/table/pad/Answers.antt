use Rattle.std.proofs.Common.{◌≡◌, ℕ, ◌<◌, ◌≤◌, length, List, sym, ◌∙◌, arith, get_or, inl, inr}
use Rattle.std.proofs.{lemmas.Bool.cases_lt, lemmas.List.get_or_past}

-- a list that goes on with `none` says nothing else
padded : {X : Type 0} (old new : List X) (end : ℕ) (none : X) → length old ≤ end → length new ≡ end → ((k : ℕ) (d : X) → k < end → k < length old → get_or new k d ≡ get_or old k d) → ((k : ℕ) (d : X) → length old ≤ k → k < end → get_or new k d ≡ none) → (k : ℕ) → get_or new k none ≡ get_or old k none
padded old new end none le len same pads k =
    elim (cases_lt k (length old)) [
      | inl lt ↦ same k none (omega (arith, lt, le)) lt
      | inr past ↦
          elim (cases_lt k end) [
            | inl lt ↦ pads k none past lt ∙ sym (get_or_past old k none past)
            | inr beyond ↦ get_or_past new k none (omega (arith, len, beyond)) ∙ sym (get_or_past old k none past)
          ]
    ]
