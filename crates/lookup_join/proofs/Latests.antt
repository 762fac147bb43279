-- What is picked of the latest of some elements, and of the members of a group, which stand by their times.
use Rattle.std.proofs.Common.{◌≡◌, refl, ap, ap₂, sym, ◌∙◌, subst, Bool, true, false, not, cond, ℕ, zero, suc, ◌-◌, ◌≤◌, ◌&&◌, arith, List, [], ◌∷◌, map, filter, length, Option, Some, None, ℤ, true≢false}
use Rattle.std.{specs.Prelude.{find, int_le, int_lt, option_map, pos, slice_get, IfSome}, specs.List.{AllByRecursion, count_by}, proofs.lemmas.List.Sums.length-filter, proofs.lemmas.Option.{none-some, slice_get-map}, proofs.lemmas.Int.ints}
use Rattle.key_lists.proofs.Every.{every_weaker, every-filter, filter_filter, filter_none}
use Rattle.lookup_join.{specs.declared.latest.Found.Found, specs.declared.pick.Pick.Pick, specs.declared.pick.Pick.TheVariants.{First, Last, Latest}, specs.declared.keyed.Side.Side, specs.Keyed.{indexed, keyed}, specs.Latest.{AreTimed, beats, latest_by, match_of, next_time, or_later}, proofs.Picks.{beats_later, beats_no_earlier, beats_through, one_way}}
use Rattle.row_groups.{proofs.Order.{at_most, later_too}, proofs.Placed.{every-by_at, every-placed}, specs.Members.{Grouped, Member, by_at, group_of, keys_of, placed}}
use Rattle.tick_laws.proofs.ResultCells.{length-filter_most}
use Rattle.tick_model.{specs.declared.plan.OnPair.OnPair, specs.declared.table.PlainRow.PlainRow, specs.Tables.same_cells}

module _ {X : Type 0} (pick : Pick) (time : X → ℤ) where
  -- of two that follow each other, of which the second is later, the order does not matter
  pub later_swap : (x y : X) (o : Option X) → int_lt (time y) (time x) ≡ true → or_later pick time x (or_later pick time y o) ≡ or_later pick time y (or_later pick time x o)
  later_swap x y None h = ap (λ c. cond c (Some x) (Some y)) (beats_later pick (time y) (time x) h) ∙ sym (ap (λ c. cond c (Some y) (Some x)) (beats_no_earlier pick (time x) (time y) h))
  later_swap x y (Some b) h = by (beats pick (time b) (time y)) refl (beats pick (time b) (time x)) refl
    where
      by : (p : Bool) → beats pick (time b) (time y) ≡ p → (q : Bool) → beats pick (time b) (time x) ≡ q → or_later pick time x (cond p (Some y) (Some b)) ≡ or_later pick time y (cond q (Some x) (Some b))
      by true is true e = ap (λ c. cond c (Some x) (Some y)) (beats_later pick (time y) (time x) h) ∙ sym (ap (λ c. cond c (Some y) (Some x)) (beats_no_earlier pick (time x) (time y) h))
      by true is false e = absurd (true≢false (sym (beats_through pick (time b) (time y) (time x) is h) ∙ e))
      by false is true e = ap (λ c. cond c (Some x) (Some b)) e ∙ sym (ap (λ c. cond c (Some y) (Some x)) (beats_no_earlier pick (time x) (time y) h))
      by false is false e = ap (λ c. cond c (Some x) (Some b)) e ∙ sym (ap (λ c. cond c (Some y) (Some b)) is)

  module _ (p : X → Bool) where
    pub latest_first : (x : X) (xs : List X) → latest_by pick time (filter p (x ∷ xs)) ≡ cond (p x) (or_later pick time x (latest_by pick time (filter p xs))) (latest_by pick time (filter p xs))
    latest_first x xs = elim (p x) as (λ b. latest_by pick time (cond b (x ∷ filter p xs) (filter p xs)) ≡ cond b (or_later pick time x (latest_by pick time (filter p xs))) (latest_by pick time (filter p xs))) [ true ↦ refl | false ↦ refl ]

    pub swap_both : (x y : X) (o : Option X) → int_lt (time y) (time x) ≡ true → (a c : Bool) → cond a (or_later pick time y (cond c (or_later pick time x o) o)) (cond c (or_later pick time x o) o) ≡ cond c (or_later pick time x (cond a (or_later pick time y o) o)) (cond a (or_later pick time y o) o)
    swap_both x y o h true true = sym (later_swap x y o h)
    swap_both x y o h true false = refl
    swap_both x y o h false true = refl
    swap_both x y o h false false = refl

-- members stand by their times
abbrev pub Timed : List Member → Type 0
Timed [] = Unit {0}
Timed (member ∷ members) = AllByRecursion (λ (other : Member). int_lt other.at member.at ≡ false) members × Timed members

placed_timed : (member : Member) (members : List Member) → Timed members → Timed (placed member members)
placed_timed member [] h = (tt, tt)
placed_timed member (other ∷ others) h = by (int_lt other.at member.at) refl (placed_timed member others h.1)
  where
    by : (b : Bool) → int_lt other.at member.at ≡ b → Timed (placed member others) → Timed (cond b (other ∷ placed member others) (member ∷ other ∷ others))
    by true lt rest = (every-placed (λ (z : Member). int_lt z.at other.at ≡ false) member others (one_way other.at member.at lt) h.0, rest)
    by false not_lt rest = ((not_lt, every_weaker (λ (z : Member). int_lt z.at other.at ≡ false) (λ (z : Member). int_lt z.at member.at ≡ false) others (λ z e. later_too member.at other.at z.at not_lt e) h.0), h)

by_at_timed : (members : List Member) → Timed (by_at members)
by_at_timed [] = tt
by_at_timed (member ∷ members) = placed_timed member (by_at members) (by_at_timed members)

pub group_timed : (cells : List ℤ) (members : List Member) → Timed (group_of cells members)
group_timed cells members = by_at_timed (filter (λ (member : Member). same_cells cells member.cells) members)

abbrev time : Member → ℤ
time member = member.at

abbrev Picked : Pick → (Member → Bool) → List Member → Option Member
Picked pick p members = latest_by pick time (filter p members)

latest-placed : (pick : Pick) (p : Member → Bool) (member : Member) (members : List Member) → Picked pick p (placed member members) ≡ Picked pick p (member ∷ members)
latest-placed pick p member [] = refl
latest-placed pick p member (other ∷ others) = by (int_lt other.at member.at) refl (latest-placed pick p member others)
  where
    by : (b : Bool) → int_lt other.at member.at ≡ b → Picked pick p (placed member others) ≡ Picked pick p (member ∷ others) → Picked pick p (cond b (other ∷ placed member others) (member ∷ other ∷ others)) ≡ Picked pick p (member ∷ other ∷ others)
    by true lt rest =
        latest_first pick time p other (placed member others)
        ∙ ap (λ o. cond (p other) (or_later pick time other o) o) (rest ∙ latest_first pick time p member others)
        ∙ swap_both pick time p member other (Picked pick p others) lt (p other) (p member)
        ∙ sym (latest_first pick time p member (other ∷ others) ∙ ap (λ o. cond (p member) (or_later pick time member o) o) (latest_first pick time p other others))
    by false not_lt rest = refl

latest-by_at : (pick : Pick) (p : Member → Bool) (members : List Member) → Picked pick p (by_at members) ≡ Picked pick p members
latest-by_at pick p [] = refl
latest-by_at pick p (member ∷ members) =
    latest-placed pick p member (by_at members) ∙ latest_first pick time p member (by_at members)
    ∙ ap (λ o. cond (p member) (or_later pick time member o) o) (latest-by_at pick p members) ∙ sym (latest_first pick time p member members)

-- the match is picked of the group
pub match_in : (pick : Pick) (cells : List ℤ) (at : ℤ) (members : List Member) → match_of pick cells at members ≡ latest_by pick time (filter (λ (member : Member). int_le member.at at) (group_of cells members))
match_in pick cells at members =
    ap (latest_by pick time) (sym (filter_filter (λ (member : Member). int_le member.at at) (λ (member : Member). same_cells cells member.cells) members))
    ∙ sym (latest-by_at pick (λ (member : Member). int_le member.at at) (filter (λ (member : Member). same_cells cells member.cells) members))

-- the last of so many first ones
abbrev pub last_of : {X : Type 0} → List X → ℕ → Option X
last_of xs zero = None
last_of xs (suc n) = slice_get xs n

-- a pick that takes the last of one time
abbrev pub IsOfLast : Pick → Type 0
IsOfLast pick = (behind own : ℤ) → beats pick behind own ≡ int_lt behind own

stays_last : (pick : Pick) → IsOfLast pick → (member : Member) (members : List Member) (n : ℕ) → AllByRecursion (λ (other : Member). int_lt other.at member.at ≡ false) members → suc n ≤ length members → or_later pick time member (slice_get members n) ≡ slice_get members n
stays_last pick takes member [] n h few = absurd (omega arith)
stays_last pick takes member (other ∷ others) zero h few = ap (λ b. cond b (Some member) (Some other)) (takes other.at member.at ∙ h.0)
stays_last pick takes member (other ∷ others) (suc n) h few = stays_last pick takes member others n h.1 (omega arith)

later_than : (other member at : ℤ) → int_lt other member ≡ false → int_le member at ≡ false → int_le other at ≡ false
later_than other member at e f = grind (arith, ints)

later_all : (at : ℤ) (member : Member) (members : List Member) → AllByRecursion (λ (other : Member). int_lt other.at member.at ≡ false) members → int_le member.at at ≡ false → AllByRecursion (λ (other : Member). int_le other.at at ≡ false) members
later_all at member members h not_le = every_weaker (λ (other : Member). int_lt other.at member.at ≡ false) (λ (other : Member). int_le other.at at ≡ false) members (λ other e. later_than other.at member.at at e not_le) h

-- where all have one time
all_pass : (p : Member → Bool) (members : List Member) → AllByRecursion (λ (member : Member). p member ≡ true) members → filter p members ≡ members
all_pass p [] h = refl
all_pass p (member ∷ members) h = ap₂ (λ b (rest : List Member). cond b (member ∷ rest) rest) h.0 (all_pass p members h.1)

got_still : (members : List Member) (n : ℕ) → AllByRecursion (λ (member : Member). member.at ≡ pos 0) members → IfSome (slice_get members n) (λ (member : Member). member.at ≡ pos 0)
got_still [] n h = tt
got_still (member ∷ members) zero h = h.0
got_still (member ∷ members) (suc n) h = got_still members n h.1

found_still : (o : Option Member) → IfSome o (λ (member : Member). member.at ≡ pos 0) → option_map (λ key. let it : Found = record { key = key; at = pos 0 } in it) (option_map (λ (member : Member). member.key) o) ≡ option_map (λ (member : Member). let it : Found = record { key = member.key; at = member.at } in it) o
found_still None h = refl
found_still (Some member) h = ap (λ moment. let it : Found = record { key = member.key; at = moment } in Some it) (sym h)

first_still : (members : List Member) → AllByRecursion (λ (member : Member). member.at ≡ pos 0) members → latest_by First time members ≡ slice_get members 0
first_still [] h = refl
first_still (member ∷ members) h = ap (or_later First time member) (first_still members h.1) ∙ by members h.1
  where
    by : (others : List Member) → AllByRecursion (λ (member : Member). member.at ≡ pos 0) others → or_later First time member (slice_get others 0) ≡ Some member
    by [] k = refl
    by (other ∷ others) k = ap (λ b. cond b (Some member) (Some other)) (ap₂ int_le k.0 h.0)

last_still : (members : List Member) → AllByRecursion (λ (member : Member). member.at ≡ pos 0) members → latest_by Last time members ≡ slice_get members (length members - 1)
last_still [] h = refl
last_still (member ∷ []) h = refl
last_still (member ∷ other ∷ others) h =
    let before : length (other ∷ others) - 1 ≡ length others = omega arith in
    let end : length (member ∷ other ∷ others) - 1 ≡ suc (length others) = omega arith in
    ap (or_later Last time member) (last_still (other ∷ others) h.1 ∙ ap (slice_get (other ∷ others)) before)
    ∙ stays_last Last (λ behind own. refl) member (other ∷ others) (length others) (every_weaker (λ (later : Member). later.at ≡ pos 0) (λ (later : Member). int_lt later.at member.at ≡ false) (other ∷ others) (λ later z. ap₂ int_lt z h.0) h.1) (omega arith)
    ∙ sym (ap (slice_get (member ∷ other ∷ others)) end)

module _ (at : ℤ) where
  abbrev pub until : Member → Bool
  until member = int_le member.at at

  pub last_until : (pick : Pick) → IsOfLast pick → (members : List Member) → Timed members → Picked pick until members ≡ last_of members (length (filter until members))
  last_until pick takes [] h = refl
  last_until pick takes (member ∷ members) h = by (until member) refl (last_until pick takes members h.1)
    where
      first : (n : ℕ) → n ≤ length members → or_later pick time member (last_of members n) ≡ slice_get (member ∷ members) n
      first zero few = refl
      first (suc n) few = stays_last pick takes member members n h.0 few

      by : (b : Bool) → until member ≡ b → Picked pick until members ≡ last_of members (length (filter until members)) → latest_by pick time (cond b (member ∷ filter until members) (filter until members)) ≡ last_of (member ∷ members) (length (cond b (member ∷ filter until members) (filter until members)))
      by true e rest = ap (or_later pick time member) rest ∙ first (length (filter until members)) (length-filter_most until members)
      by false e rest =
          let none : filter until members ≡ [] = filter_none until members (later_all at member members h.0 e) in
          ap (latest_by pick time) none ∙ sym (ap (λ xs. last_of (member ∷ members) (length xs)) none)

  pub next_until : (members : List Member) → Timed members → find (λ (member : Member). int_lt at member.at) members ≡ slice_get members (length (filter until members))
  next_until [] h = refl
  next_until (member ∷ members) h = by (until member) refl (int_lt at member.at) refl (next_until members h.1)
    where
      by : (b : Bool) → until member ≡ b → (c : Bool) → int_lt at member.at ≡ c → find (λ (member : Member). int_lt at member.at) members ≡ slice_get members (length (filter until members)) → cond c (Some member) (find (λ (member : Member). int_lt at member.at) members) ≡ slice_get (member ∷ members) (length (cond b (member ∷ filter until members) (filter until members)))
      by true e false f rest = rest
      by false e true f rest = sym (ap (λ (xs : List Member). slice_get (member ∷ members) (length xs)) (filter_none until members (later_all at member members h.0 e)))
      by true e true f rest = absurd (true≢false (sym e ∙ sym (at_most member.at at) ∙ ap not f))
      by false e false f rest = absurd (true≢false (sym (ap not f) ∙ at_most member.at at ∙ e))

  module _ (cells : List ℤ) (members : List Member) where
    abbrev group : List Member
    group = group_of cells members

    timed : Timed group
    timed = group_timed cells members

    pub next_is : next_time cells at members ≡ option_map (λ (member : Member). member.at) (slice_get group (count_by until group))
    next_is = ap (option_map (λ (member : Member). member.at)) (next_until group timed ∙ ap (slice_get group) (length-filter until group))

    abbrev found : Member → Found
    found member = record { key = member.key; at = member.at }

    both : (key : ℕ) (own : ℤ) (o : Option Member) → option_map (λ (member : Member). member.key) o ≡ Some key → option_map (λ (member : Member). member.at) o ≡ Some own → Some (record { key = key; at = own }) ≡ option_map found o
    both key own None e f = absurd (none-some key e)
    both key own (Some member) e f = cc

    -- the last of so many that are not later, by its place
    pub found_last : (pick : Pick) → IsOfLast pick → (n key : ℕ) (own : ℤ) → count_by until group ≡ suc n → slice_get (keys_of group) n ≡ Some key → slice_get (map time group) n ≡ Some own → Some (record { key = key; at = own }) ≡ option_map found (match_of pick cells at members)
    found_last pick takes n key own count e f =
        both key own (slice_get group n) (sym (slice_get-map (λ (member : Member). member.key) group n) ∙ e) (sym (slice_get-map time group n) ∙ f)
        ∙ ap (option_map found) (sym (match_in pick cells at members ∙ last_until pick takes group timed ∙ ap (last_of group) (length-filter until group ∙ count)))

    pub none_found : (pick : Pick) → count_by until group ≡ 0 → ◌≡◌ {A = Option Found} None (option_map found (match_of pick cells at members))
    none_found pick count = ap (option_map found) (sym (match_in pick cells at members ∙ ap (latest_by pick time) (nothing_long (filter until group) (length-filter until group ∙ count))))
      where
        nothing_long : (xs : List Member) → length xs ≡ 0 → xs ≡ []
        nothing_long [] e = refl
        nothing_long (x ∷ xs) e = absurd (omega (arith, e))

    -- where all have the time 0, the first or the last one is picked, if that is not later
    module _ (still : AllByRecursion (λ (member : Member). member.at ≡ pos 0) members) where
      own : AllByRecursion (λ (member : Member). member.at ≡ pos 0) group
      own = every-by_at (λ (member : Member). member.at ≡ pos 0) (filter (λ (member : Member). same_cells cells member.cells) members) (every-filter (λ (member : Member). member.at ≡ pos 0) (λ (member : Member). same_cells cells member.cells) members still)

      each : (b : Bool) → int_le (pos 0) at ≡ b → AllByRecursion (λ (member : Member). until member ≡ b) group
      each b e = every_weaker (λ (member : Member). member.at ≡ pos 0) (λ (member : Member). until member ≡ b) group (λ member z. ap (λ moment. int_le moment at) z ∙ e) own

      found_end : (pick : Pick) (n : ℕ) (key : Option ℕ) → latest_by pick time group ≡ slice_get group n → key ≡ slice_get (keys_of group) n → cond (int_le (pos 0) at) (option_map (λ key. let it : Found = record { key = key; at = pos 0 } in it) key) None ≡ option_map found (match_of pick cells at members)
      found_end pick n key picked is = by (int_le (pos 0) at) refl ∙ sym (ap (option_map found) (match_in pick cells at members))
        where
          by : (b : Bool) → int_le (pos 0) at ≡ b → cond b (option_map (λ key. let it : Found = record { key = key; at = pos 0 } in it) key) None ≡ option_map found (latest_by pick time (filter until group))
          by true e =
              ap (option_map (λ key. let it : Found = record { key = key; at = pos 0 } in it)) (is ∙ slice_get-map (λ (member : Member). member.key) group n) ∙ found_still (slice_get group n) (got_still group n own)
              ∙ sym (ap (option_map found) (ap (latest_by pick time) (all_pass until group (each true e)) ∙ picked))
          by false e = sym (ap (λ xs. option_map found (latest_by pick time xs)) (filter_none until group (each false e)))

      pub found_first : (key : Option ℕ) → key ≡ slice_get (keys_of group) 0 → cond (int_le (pos 0) at) (option_map (λ key. let it : Found = record { key = key; at = pos 0 } in it) key) None ≡ option_map found (match_of First cells at members)
      found_first key is = found_end First 0 key (first_still group own) is

      pub found_final : (key : Option ℕ) → key ≡ slice_get (keys_of group) (length group - 1) → cond (int_le (pos 0) at) (option_map (λ key. let it : Found = record { key = key; at = pos 0 } in it) key) None ≡ option_map found (match_of Last cells at members)
      found_final key is = found_end Last (length group - 1) key (last_still group own) is

-- a pick of times takes the last one
as_last : {X : Type 0} (on : OnPair) (time : X → ℤ) (xs : List X) → latest_by (Latest on) time xs ≡ latest_by Last time xs
as_last on time [] = refl
as_last {X = X} on time (x ∷ xs) = by (latest_by (Latest on) time xs) (latest_by Last time xs) (as_last on time xs)
  where
    by : (o u : Option X) → o ≡ u → or_later (Latest on) time x o ≡ or_later Last time x u
    by None u e = ap (or_later Last time x) e
    by (Some best) u e = ap (or_later Last time x) e

pub match_as_last : (pick : Pick) (on : OnPair) (cells : List ℤ) (at : ℤ) (members : List Member) → pick ≡ Latest on → match_of Last cells at members ≡ match_of pick cells at members
match_as_last pick on cells at members is =
    sym (as_last on time (filter (λ (member : Member). same_cells cells member.cells && int_le member.at at) members)) ∙ ap (λ (pick : Pick). match_of pick cells at members) (sym is)

-- the members of an index have the times of its pick
are_timed : (side : Side) (on : List OnPair) (pick : Pick) (rows : List PlainRow) → AreTimed pick (keyed side on pick rows)
are_timed side on First [] = tt
are_timed side on First (row ∷ rows) = (refl, are_timed side on First rows)
are_timed side on Last [] = tt
are_timed side on Last (row ∷ rows) = (refl, are_timed side on Last rows)
are_timed side on (Latest at) rows = tt

pub timed_index : (side : Side) (on : List OnPair) (pick : Pick) (rows : List PlainRow) (index : Grouped) → index ≡ indexed side on pick rows → AreTimed pick index.members
timed_index side on pick rows index is = subst (λ (index : Grouped). AreTimed pick index.members) (sym is) (are_timed side on pick rows)
