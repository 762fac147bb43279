-- The numbers of the groups, as they are shown.
use Rattle.std.proofs.Common.{◌≡◌, ◌≢◌, refl, ap, sym, ◌∙◌, subst, ℕ, zero, suc, ◌+◌, List, [], ◌∷◌, length, map, get_or, Option, Some, None, IfSome, IsSome, option_map, arith, ℤ}
use Rattle.std.proofs.lemmas.Option.{none-some, same_Some}
use Rattle.row_handles.specs.Entries.{handle_under}
use Rattle.slab.{specs.Slab.{entries_from, get, slab_len}, proofs.SlabLemmas.length-entries}
use Rattle.row_groups.{specs.declared.index.GroupIndex.GroupIndex, specs.declared.lists.KeyedRows.KeyedRows, specs.Members.{IsNumberOf, IsNumberUnder, IsPart, group_of, name_at}, specs.Kept.kept_in, specs.Rows.{ByNumber, IsKept, cells_in, cells_with, group_rows, members_of, number_under, rows_of, slots_under}, specs.Slots.{IsGroup, member_at}, specs.Indexes.{IsIndex, names_of, numbered_of}, proofs.Keys.{ascending, known_all, under_has}, proofs.Listed.{numbered_under, under_none, with_group, with_rows}, proofs.Groupings.{group_members, listed_group, listed_members, under_same}, proofs.Indexed.{no_slots, some_cells}}

names_at : (slots : List (Option KeyedRows)) (n : ℕ) → get_or (map (option_map (λ (group : KeyedRows). group.cells.items)) slots) n None ≡ option_map (λ (group : KeyedRows). group.cells.items) (get_or slots n None)
names_at [] n = refl
names_at (slot ∷ slots) zero = refl
names_at (slot ∷ slots) (suc n) = names_at slots n

pub name_is : (n : ℕ) (groups : ByNumber) → name_at n (names_of groups) ≡ cells_with n groups
name_is n groups = names_at groups.slots n

-- no group has a number exactly where no group is there
none_there : (key : ℕ) (slots : List (Option KeyedRows)) → length (entries_from key slots) ≡ 0 → (n : ℕ) → get_or slots n None ≡ None
none_there key [] none n = refl
none_there key (None ∷ slots) none zero = refl
none_there key (None ∷ slots) none (suc n) = none_there (key + 1) slots none n
none_there key (Some group ∷ slots) none n = absurd (omega (arith, none))

none_counted : (key : ℕ) (slots : List (Option KeyedRows)) → ((n : ℕ) → get_or slots n None ≡ None) → length (entries_from key slots) ≡ 0
none_counted key [] none = refl
none_counted key (None ∷ slots) none = none_counted (key + 1) slots (λ n. none (suc n))
none_counted key (Some group ∷ slots) none = absurd (none-some group (sym (none 0)))

pub none_listed : (groups : ByNumber) → slab_len groups ≡ 0 → (n : ℕ) → name_at n (names_of groups) ≡ None
none_listed groups none n = name_is n groups ∙ ap (option_map (λ (group : KeyedRows). group.cells.items)) (none_there 0 groups.slots (length-entries groups ∙ none) n)

pub all_listed : (groups : ByNumber) → ((n : ℕ) → name_at n (names_of groups) ≡ None) → slab_len groups ≡ 0
all_listed groups none = sym (length-entries groups) ∙ none_counted 0 groups.slots (λ n. by_slot (get groups n) (sym (name_is n groups) ∙ none n))
  where
    by_slot : (group : Option KeyedRows) → option_map (λ (g : KeyedRows). g.cells.items) group ≡ None → group ≡ None
    by_slot None e = refl
    by_slot (Some group) e = absurd (none-some group.cells.items (sym e))

module _ (index : GroupIndex) (is : IsIndex index) where
  -- cells without a number are those of no member
  none_named : (cells : List ℤ) → ((n : ℕ) → name_at n (names_of index.lists.groups) ≢ Some cells) → group_of cells (numbered_of index).members ≡ []
  none_named cells unnamed = by_number (number_under cells index.lists.numbers) refl
    where
      by_number : (found : Option ℕ) → number_under cells index.lists.numbers ≡ found → group_of cells (numbered_of index).members ≡ []
      by_number None e =
          let rows = rows_of index.table index.lists.groups index.handles in
          sym (group_members cells rows) ∙ ap members_of (no_slots (group_rows cells rows) (sym (is.listed cells) ∙ under_none cells index.lists e))
      by_number (Some n) e = absurd (unnamed n (name_is n index.lists.groups ∙ is.numbered.numbers cells n e))

  one_number : (m n : ℕ) (cells : List ℤ) → name_at m (names_of index.lists.groups) ≡ Some cells → name_at n (names_of index.lists.groups) ≡ Some cells → m ≡ n
  one_number m n cells e f =
      same_Some m n (sym (is.numbered.cells cells m (sym (name_is m index.lists.groups) ∙ e)) ∙ is.numbered.cells cells n (sym (name_is n index.lists.groups) ∙ f))

  -- the number under some cells, if there is one
  pub unnamed : (cells : List ℤ) → number_under cells index.lists.numbers ≡ None → (n : ℕ) → name_at n (names_of index.lists.groups) ≢ Some cells
  unnamed cells none n e = none-some n (sym none ∙ is.numbered.cells cells n (sym (name_is n index.lists.groups) ∙ e))

  pub empty_under : (cells : List ℤ) → number_under cells index.lists.numbers ≡ None → group_of cells (numbered_of index).members ≡ []
  empty_under cells none = none_named cells (unnamed cells none)

  pub empty_named : ((n : ℕ) → name_at n (names_of index.lists.groups) ≡ None) → (cells : List ℤ) → group_of cells (numbered_of index).members ≡ []
  empty_named none cells = none_named cells (λ n e. none-some cells (sym (none n) ∙ e))

  pub number_is : (n : ℕ) (cells : List ℤ) → cells_with n index.lists.groups ≡ Some cells → IsNumberOf n cells (names_of index.lists.groups)
  number_is n cells e =
      let own = name_is n index.lists.groups ∙ e in
      record { own = own; alone = λ other f. one_number other n cells f own }

  -- the number that is kept of the row under a key
  pub number_kept : (key handle : ℕ) → handle_under key index.handles ≡ Some handle → IsNumberUnder (numbered_of index) key (kept_in index.table handle).number
  number_kept key handle here cells named =
      let groups = index.lists.groups in
      let kept = under_has (λ x. IsKept index.width index.table groups x.handle) key handle index.handles is.kept here in
      let same : cells_in index.table groups handle ≡ cells = same_Some _ _ (sym (under_same (λ member. member.cells) (cells_in index.table groups) key index.table groups index.handles (λ x. refl) ∙ ap (option_map (cells_in index.table groups)) here) ∙ named) in
      number_is (kept_in index.table handle).number cells (some_cells (cells_with (kept_in index.table handle).number groups) kept.there ∙ ap Some same)

  pub found_is : (cells : List ℤ) (found : Option ℕ) → number_under cells index.lists.numbers ≡ found → IfSome found (λ n. IsNumberOf n cells (names_of index.lists.groups))
  found_is cells None e = tt
  found_is cells (Some n) e = number_is n cells (is.numbered.numbers cells n e)

  -- the group with a number
  module _ (n : ℕ) (group : KeyedRows) (there : get index.lists.groups n ≡ Some group) where
    pub named : name_at n (names_of index.lists.groups) ≡ Some group.cells.items
    named = name_is n index.lists.groups ∙ with_group n index.lists.groups group there

    own_slots : group.rows ≡ slots_under group.cells.items index.lists
    own_slots = sym (with_rows n index.lists.groups group there) ∙ numbered_under group.cells.items n index.lists is.numbered (with_group n index.lists.groups group there)

    pub is_group : IsGroup index.handles index.table group.rows
    is_group =
        subst (IsGroup index.handles index.table) (sym own_slots)
        (listed_group index.handles index.table index.lists.groups index.handles index.lists group.cells.items is.listed (known_all index.handles is.handled.handles) (ascending index.handles is.handled) is.handled)

    pub members_with : map (member_at index.handles index.table group.cells.items) group.rows ≡ group_of group.cells.items (numbered_of index).members
    members_with = ap (map (member_at index.handles index.table group.cells.items)) own_slots ∙ listed_members index.table index.lists.groups index.handles index.lists group.cells.items is.listed is.handled

-- an index whose groups keep their numbers in another
pub part_of : (part whole : GroupIndex) → IsIndex part → IsIndex whole → ((n : ℕ) (cells : List ℤ) → cells_with n part.lists.groups ≡ Some cells → cells_with n whole.lists.groups ≡ Some cells) → IsPart (numbered_of part) (numbered_of whole)
part_of part whole is other keeps = record {
  kept = λ n cells e. name_is n whole.lists.groups ∙ keeps n cells (sym (name_is n part.lists.groups) ∙ e);
  named = none_named part is;
  alone = one_number whole other;
}

pub keeps_all : (old new : ByNumber) → ((n : ℕ) → IsSome (cells_with n old) → cells_with n new ≡ cells_with n old) → (n : ℕ) (cells : List ℤ) → cells_with n old ≡ Some cells → cells_with n new ≡ Some cells
keeps_all old new same n cells e = same n (subst (λ (named : Option (List ℤ)). IsSome named) (sym e) refl) ∙ e
