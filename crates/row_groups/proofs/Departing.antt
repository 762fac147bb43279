-- A row that leaves its group.
use Rattle.std.proofs.Common.{◌≡◌, ◌≢◌, refl, ap, ap₂, sym, ◌∙◌, subst, arith, false, ℕ, suc, ◌+◌, ◌<◌, List, [], ◌∷◌, ◌++◌, get_or, length, length-append, Option, Some, None, IsSome, option_map, unwrap_or, ℤ}
use Rattle.std.{specs.List.AllZip, proofs.lemmas.List.get_or_at, proofs.lemmas.List.Elements.{AllZip-get_or, length_all_zip}, proofs.lemmas.Option.same_Some}
use Rattle.key_lists.specs.Keys.{is_among}
use Rattle.row_handles.specs.Entries.{handle_under, left_rows}
use Rattle.row_groups.{specs.declared.index.GroupIndex.GroupIndex, specs.declared.lists.Lists.Lists, specs.declared.table.GroupMember.GroupMember, specs.Members.{IsNumberUnder, IsRegrouped, Member, member_under, with_member}, specs.Kept.{at_in, kept_in}, specs.Rows.{AreNumbered, Becomes, IsKept, cells_in, cells_with, members_of, rows_of, slots_numbered, slots_under}, specs.Slots.{IsGroup, handle_from, slots_without}, specs.Indexes.{IsIndex, grouped_of, numbered_of}, proofs.Keys.{some_of, under_has}, proofs.Groupings.{there_under, under_same}, proofs.Indexed.{AreGone, group_there, grouped_same, index_left, kept_of, members_removed, none_gone, row_there, some_cells, step_less}, proofs.Named.{keeps_all, name_is, part_of}}

-- two lists that are walked together: the item at the place of the next one
module _ (R : ℕ → ℕ → Type 0) (keys yielded others numbers : List ℕ) (key place : ℕ) (next : keys ≡ yielded ++ key ∷ others) (count : place ≡ length yielded) (all : AllZip R keys numbers) where
  abbrev below : place < length keys
  below = let long : length keys ≡ length yielded + suc (length others) = ap length next ∙ length-append yielded (key ∷ others) in omega (arith, long, count)

  pub zipped_within : place < length numbers
  zipped_within = subst (λ n. place < n) (length_all_zip R keys numbers all) below

  pub zipped_next : R key (get_or numbers place 0)
  zipped_next = subst (λ k. R k (get_or numbers place 0)) (ap₂ (λ ks n. get_or ks n 0) next count ∙ get_or_at yielded key others 0 (length yielded) refl) (AllZip-get_or R keys numbers place 0 0 all below)

-- a row is to leave of which it is known what is kept
pub record Departs (gone : List ℕ) (key : ℕ) (kept : GroupMember) (old index : GroupIndex) : Type 0 where
  pub handle : ℕ
  pub so_far : AreGone gone old index
  pub new : is_among key gone ≡ false
  pub here : handle_under key index.handles ≡ Some handle
  pub kept_is : kept_in index.table handle ≡ kept

module _ (gone : List ℕ) (key : ℕ) (kept : GroupMember) (old index : GroupIndex) (d : Departs gone key kept old index) where
  pub departs_there : IsSome (cells_with kept.number index.lists.groups)
  departs_there = subst (λ (kept : GroupMember). IsSome (cells_with kept.number index.lists.groups)) d.kept_is (kept_of gone key d.handle index d.so_far.holds d.new d.here).there

  pub departs_group : IsGroup index.handles index.table (slots_numbered kept.number index.lists.groups)
  departs_group = subst (λ (kept : GroupMember). IsGroup index.handles index.table (slots_numbered kept.number index.lists.groups)) d.kept_is (group_there gone key d.handle index d.so_far.holds d.new d.here)

  pub departs_handle : (place : ℤ) → place ≡ kept.at → handle_from index.handles index.table place key (slots_numbered kept.number index.lists.groups) ≡ Some d.handle
  departs_handle place same =
      ap (λ (a : ℤ). handle_from index.handles index.table a key (slots_numbered kept.number index.lists.groups)) same
      ∙ ap (λ (kept : GroupMember). handle_from index.handles index.table kept.at key (slots_numbered kept.number index.lists.groups)) (sym d.kept_is)
      ∙ row_there gone key d.handle index d.so_far.holds d.new d.here

  -- its group loses it
  pub departed : (lists : Lists) (place : ℤ) → place ≡ kept.at
      → ((cells : List ℤ) → cells_with kept.number index.lists.groups ≡ Some cells → Becomes cells (slots_without index.handles index.table place key (slots_under cells index.lists)) index.lists lists)
      → (slots_without index.handles index.table place key (slots_numbered kept.number index.lists.groups) ≢ [] → cells_with kept.number lists.groups ≡ cells_with kept.number index.lists.groups)
      → ((other : ℕ) → other ≢ kept.number → cells_with other lists.groups ≡ cells_with other index.lists.groups)
      → ((other : ℕ) (cells : List ℤ) → cells_with other lists.groups ≡ Some cells → cells_with other index.lists.groups ≡ Some cells) → AreNumbered lists → AreGone (gone ++ key ∷ []) old (record index { lists = lists })
  departed lists place same becomes stays others fewer numbered =
      let groups = index.lists.groups in
      let cells = cells_in index.table groups d.handle in
      let back = sym d.kept_is in
      let own = subst (λ (kept : GroupMember). cells_with kept.number groups ≡ Some cells) d.kept_is (some_cells (cells_with (kept_in index.table d.handle).number groups) (kept_of gone key d.handle index d.so_far.holds d.new d.here).there) in
      step_less gone key d.handle old index lists d.so_far d.new (record {
        here = d.here;
        becomes = subst (λ (a : ℤ). Becomes cells (slots_without index.handles index.table a key (slots_under cells index.lists)) index.lists lists) (same ∙ ap (λ (kept : GroupMember). kept.at) back) (becomes cells own);
        stays = subst (λ (kept : GroupMember). slots_without index.handles index.table kept.at key (slots_numbered kept.number groups) ≢ [] → cells_with kept.number lists.groups ≡ cells_with kept.number groups) back
            (subst (λ (a : ℤ). slots_without index.handles index.table a key (slots_numbered kept.number groups) ≢ [] → cells_with kept.number lists.groups ≡ cells_with kept.number groups) same stays);
        others = subst (λ (kept : GroupMember). (other : ℕ) → other ≢ kept.number → cells_with other lists.groups ≡ cells_with other groups) back others;
        fewer = fewer;
        numbered = numbered;
      })

handle_is : (found : Option ℕ) → IsSome found → found ≡ Some (unwrap_or found 0)
handle_is None there = absurd (cc)
handle_is (Some handle) there = refl

-- a row whose group's number and whose `at` are known
pub departs_numbered : (gone : List ℕ) (key number : ℕ) (at : ℤ) (old index : GroupIndex) → IsIndex old → AreGone gone old index → is_among key gone ≡ false → IsNumberUnder (numbered_of old) key number → option_map (λ (member : Member). member.at) (member_under key (grouped_of old).members) ≡ Some at
    → Departs gone key (record { number = number; at = at }) old index
departs_numbered gone key number at old index is so_far new under placed =
    let groups = old.lists.groups in
    let handle : ℕ = unwrap_or (handle_under key old.handles) 0 in
    let here : handle_under key old.handles ≡ Some handle = handle_is (handle_under key old.handles) (there_under key old.table groups old.handles (some_of (λ (member : Member). member.at) (member_under key (grouped_of old).members) at placed)) in
    let cells = cells_in old.table groups handle in
    let own = under_has (λ x. IsKept old.width old.table groups x.handle) key handle old.handles is.kept here in
    let member = under_same (λ member. member.cells) (cells_in old.table groups) key old.table groups old.handles (λ x. refl) ∙ ap (option_map (cells_in old.table groups)) here in
    let named = name_is (kept_in old.table handle).number groups ∙ some_cells (cells_with (kept_in old.table handle).number groups) own.there in
    record {
      handle = handle;
      so_far = so_far;
      new = new;
      here = ap (handle_under key) so_far.handles ∙ here;
      kept_is =
          ap (λ table. kept_in table handle) so_far.table
          ∙ ap₂ (λ (number : ℕ) (at : ℤ). let kept : GroupMember = record { number = number; at = at } in kept) ((under cells member).alone (kept_in old.table handle).number named)
          (same_Some _ _ (sym (under_same (λ member. member.at) (at_in old.table) key old.table groups old.handles (λ x. refl) ∙ ap (option_map (at_in old.table)) here) ∙ placed));
    }

-- the next one of such keys
pub numbered_departs : (keys yielded others numbers : List ℕ) (key place : ℕ) (at : ℤ) (old index : GroupIndex) → IsIndex old → AreGone yielded old index → keys ≡ yielded ++ key ∷ others → is_among key yielded ≡ false → place ≡ length yielded → AllZip (IsNumberUnder (numbered_of old)) keys numbers
    → option_map (λ (member : Member). member.at) (member_under key (grouped_of old).members) ≡ Some at → Departs yielded key (record { number = get_or numbers place 0; at = at }) old index
numbered_departs keys yielded others numbers key place at old index is so_far next new count all placed =
    departs_numbered yielded key (get_or numbers place 0) at old index is so_far new (zipped_next (IsNumberUnder (numbered_of old)) keys yielded others numbers key place next count all) placed

-- a row that is alone to leave
pub departs_alone : (key number : ℕ) (at : ℤ) (index : GroupIndex) → IsIndex index → IsNumberUnder (numbered_of index) key number → option_map (λ (member : Member). member.at) (member_under key (grouped_of index).members) ≡ Some at → Departs [] key (record { number = number; at = at }) index index
departs_alone key number at index is under placed = departs_numbered [] key number at index index is (none_gone index is) refl under placed

-- a row that left and came again
pub came_again : (member : Member) (old mid new : GroupIndex) → IsIndex old → AreGone (member.key ∷ []) old mid → IsIndex new → grouped_of new ≡ record { width = mid.width; members = with_member member (members_of (rows_of mid.table mid.lists.groups (left_rows (member.key ∷ []) mid.handles))) }
    → ((n : ℕ) → IsSome (cells_with n mid.lists.groups) → cells_with n new.lists.groups ≡ cells_with n mid.lists.groups) → IsRegrouped member (numbered_of old) (numbered_of new)
came_again member old mid new is gone now came numbers =
    let rest = left_rows (member.key ∷ []) mid.handles in
    let between : GroupIndex = record mid { handles = rest } in
    let sound : IsIndex between = index_left (member.key ∷ []) mid rest gone.holds refl in
    record {
      between = numbered_of between;
      left = grouped_same _ _ _ _ gone.width (members_removed (member.key ∷ []) old mid rest gone refl);
      fewer = part_of between old sound is gone.fewer;
      came = came ∙ grouped_same _ _ _ _ gone.width refl;
      more = part_of between new sound now (keeps_all mid.lists.groups new.lists.groups numbers);
    }
