-- Left rows with two matches.
--     faulty_group left right cells      the first left row with these key cells, where two right rows have them
--     least_fault left right found groups      the one of least left key in these groups and what was found
use Rattle.std.specs.Prelude.{ℕ, List, [], ◌∷◌, Option, Some, None, fold, nat_lt, option_map, unwrap_or, if◌then◌else◌, ℤ}
use Rattle.lookup_join.specs.declared.duplicates.Duplicate.{Duplicate}
use Rattle.tick_model.{specs.declared.plan.Choice.Choice, specs.declared.plan.Choice.TheVariants.{Error, First, Last}}
use Rattle.row_groups.specs.Members.{Member, group_of, keys_of, member_under}

abbrev pub first_with_two : List ℕ → List ℕ → Option Duplicate
first_with_two [] right = None
first_with_two (key ∷ others) [] = None
first_with_two (key ∷ others) (only ∷ []) = None
first_with_two (key ∷ others) (first ∷ second ∷ more) = Some (record { left_key = key; first = first; second = second })

abbrev pub faulty_group : List Member → List Member → List ℤ → Option Duplicate
faulty_group left right cells = first_with_two (keys_of (group_of cells left)) (keys_of (group_of cells right))

abbrev pub earlier : Option Duplicate → Option Duplicate → Option Duplicate
earlier None other = other
earlier (Some one) None = Some one
earlier (Some one) (Some other) = if nat_lt other.left_key one.left_key then Some other else Some one

abbrev pub least_fault : List Member → List Member → Option Duplicate → List (List ℤ) → Option Duplicate
least_fault left right = fold (λ found cells. earlier found (faulty_group left right cells))

-- the key cells of the member under a key
abbrev pub cells_under : List Member → ℕ → List ℤ
cells_under members key = unwrap_or (option_map (λ (member : Member). member.cells) (member_under key members)) []

-- the least one, where there is to be one match
abbrev pub least_of : Choice → List Member → List Member → List (List ℤ) → Option Duplicate
least_of Error left right groups = least_fault left right None groups
least_of First left right groups = None
least_of Last left right groups = None
