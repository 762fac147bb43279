-- The records of a summary, by the numbers that a run ends with.
--     sizes rows node nodes      how many rows each node has, from the node of this number on
use Rattle.std.{specs.Prelude.{ℕ, ◌+◌, List, [], ◌∷◌, codes, slice_index_or}, specs.Fmt.decimal}
use Rattle.tick_model.specs.declared.plan.Node.{Node}

abbrev pub demo_record : ℕ → ℕ → List (List ℕ)
demo_record steps records = codes "demo" ∷ decimal steps ∷ decimal records ∷ []

abbrev pub size_record : List ℕ → ℕ → List (List ℕ)
size_record name rows = codes "size" ∷ name ∷ decimal rows ∷ []

abbrev pub sizes : List ℕ → ℕ → List Node → List (List (List ℕ))
sizes rows node [] = []
sizes rows node (first ∷ others) = size_record first.name (slice_index_or rows node 0) ∷ sizes rows (node + 1) others
