-- A status is one that the program ends with, whatever it was asked for.
use Rattle.std.proofs.Common.{◌≡◌, ◌≤◌, ◌⊎◌, ℕ, inl, inr}

pub some_status : {Asked : Type 0} (status : ℕ) → (status ≤ 10) ⊎ ((status ≡ 12) × Asked) → (status ≤ 10) ⊎ (status ≡ 12)
some_status status (inl few) = inl few
some_status status (inr (last, asked)) = inr last
