-- What holds of each member holds of each where they stand by their times.
use Rattle.std.proofs.Common.{true, false, cond, List, [], ◌∷◌}
use Rattle.std.{specs.Prelude.int_lt, specs.List.AllByRecursion}
use Rattle.row_groups.specs.Members.{Member, by_at, placed}

pub every-placed : (P : Member → Type 0) (member : Member) (members : List Member) → P member → AllByRecursion P members → AllByRecursion P (placed member members)
every-placed P member [] own h = (own, tt)
every-placed P member (other ∷ others) own h =
    elim (int_lt other.at member.at) as (λ b. AllByRecursion P (cond b (other ∷ placed member others) (member ∷ other ∷ others))) [ true ↦ (h.0, every-placed P member others own h.1) | false ↦ (own, h) ]

pub every-by_at : (P : Member → Type 0) (members : List Member) → AllByRecursion P members → AllByRecursion P (by_at members)
every-by_at P [] h = tt
every-by_at P (member ∷ members) h = every-placed P member (by_at members) h.0 (every-by_at P members h.1)
