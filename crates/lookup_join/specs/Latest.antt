-- What is picked of the latest that are not later than a time.
--     beats pick behind own      whether a row of the time `own` is picked rather than one of the time `behind` that stands behind it
--     latest_by pick time xs      of those whose time is the greatest the one that is picked
--     match_of pick cells at members      the member with these cells that is picked at this time
--     next_time cells at members      the first time after this one of a member with these cells
--     AreTimed pick members      where the pick asks for no time, all members have the same
--     during from until member      whether the member's time is in the time from one moment until another
--     count_before until members      how many members come before a time, which may be missing
use Rattle.std.{specs.Prelude.{◌≡◌, ℕ, Bool, true, ◌&&◌, List, [], ◌∷◌, Option, Some, None, filter, find, int_le, int_lt, length, option_map, ℤ, pos, if◌then◌else◌}, specs.List.{AllByRecursion, count_by}, specs.Option.option_map_or}
use Rattle.lookup_join.{specs.declared.pick.Pick.Pick, specs.declared.pick.Pick.TheVariants.{First, Last, Latest}}
use Rattle.row_groups.specs.Members.{Member, group_of}
use Rattle.tick_model.specs.Tables.{same_cells}

abbrev pub beats : Pick → ℤ → ℤ → Bool
beats First behind own = int_le behind own
beats Last behind own = int_lt behind own
beats (Latest at) behind own = int_lt behind own

-- the one that is picked of one and another that stands behind it
abbrev pub or_later : {X : Type 0} → Pick → (X → ℤ) → X → Option X → Option X
or_later pick time x None = Some x
or_later pick time x (Some best) = if beats pick (time best) (time x) then Some x else Some best

abbrev pub latest_by : {X : Type 0} → Pick → (X → ℤ) → List X → Option X
latest_by pick time [] = None
latest_by pick time (x ∷ xs) = or_later pick time x (latest_by pick time xs)

abbrev pub match_of : Pick → List ℤ → ℤ → List Member → Option Member
match_of pick cells at members = latest_by pick (λ member. member.at) (filter (λ member. same_cells cells member.cells && int_le member.at at) members)

abbrev pub AreTimed : Pick → List Member → Type 0
AreTimed First members = AllByRecursion (λ member. member.at ≡ pos 0) members
AreTimed Last members = AllByRecursion (λ member. member.at ≡ pos 0) members
AreTimed (Latest at) members = Unit {0}

abbrev pub next_time : List ℤ → ℤ → List Member → Option ℤ
next_time cells at members = option_map (λ (member : Member). member.at) (find (λ member. int_lt at member.at) (group_of cells members))

-- the earlier of two times, each of which may be missing
abbrev pub earlier : Option ℤ → Option ℤ → Option ℤ
earlier None other = other
earlier (Some one) None = Some one
earlier (Some one) (Some other) = if int_lt other one then Some other else Some one

abbrev pub during : ℤ → Option ℤ → Member → Bool
during from until member = int_le from member.at && option_map_or (λ end. int_lt member.at end) until true

-- how many members, in order of time, come before a time that may be missing
abbrev pub count_before : Option ℤ → List Member → ℕ
count_before None members = length members
count_before (Some until) members = count_by (λ member. int_lt member.at until) members
