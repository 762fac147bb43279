use Rattle.std.proofs.Common.{◌≡◌, ap, ap₂, sym, ◌∙◌, subst, ◌^◌, ◌||◌, ◌+◌, ◌*◌, ◌≤◌, arith, ℕ, List, false, None, length}
use Rattle.std.{proofs.lemmas.List.length-map, proofs.Math.Nat.mul-le-mul_left, specs.List.AllByRecursion}
use Rattle.key_lists.specs.Keys.{IsRising, is_among}
use Rattle.lookup_join.{specs.Keyed.{IsRowOf, keyed}, specs.Taken.rekeyed_pairs, proofs.Brought.{brought, brought_rising, brought_rows, came, came_absent, came_there, grouped_is, lawful_left}}
use Rattle.row_changes.specs.Parts.{AreThere}
use Rattle.row_groups.specs.Members.{Grouped, Member, Numbered, groups_of, keys_of, left_members, moved_members}
use Rattle.row_set.{proofs.United.length-united, specs.Sets.united}
use Rattle.tick_model.{specs.declared.update.KeyPair.KeyPair, specs.declared.update.ShiftRange.ShiftRange, specs.Rules.shift_fault, specs.Updates.{Update, new_keys, old_keys}}
use Rattle.lookup_join.proofs.keyed.bring_on.Goals as goal

left_is : (from removed from' removed' : List ℕ) (first second third : Numbered) (rows : List Member) → first.members ≡ rows → groups_of second ≡ (record (groups_of first) { members = left_members removed first.members }) → groups_of third ≡ (record (groups_of second) { members = left_members from second.members }) → removed ≡ removed' → from ≡ from'
    → third.members ≡ left_members from' (left_members removed' rows)
left_is from removed from' removed' first second third rows one two three r f =
    ap (λ (g : Grouped). g.members) three ∙ ap₂ left_members f (ap (λ (g : Grouped). g.members) two ∙ ap₂ left_members r one)

moved_is : (shifts shifts' : List ShiftRange) (before after : Numbered) (members : List Member) → before.members ≡ members → groups_of after ≡ (record (groups_of before) { members = moved_members shifts before.members }) → shifts ≡ shifts' → after.members ≡ moved_members shifts' members
moved_is shifts shifts' before after members b a s = ap (λ (g : Grouped). g.members) a ∙ ap₂ moved_members s b

within : (width first last came rekeyed added : ℕ) → last ≤ first + width * came → came ≤ rekeyed + added → last ≤ first + width * (rekeyed + added)
within width first last came rekeyed added h k = omega (arith, h, mul-le-mul_left width k)

pub shift-requires : goal.shift-requires
shift-requires g c =
    let t = c.args.input.now in
    let left = left_is _ _ _ _ c.args.index.now c.remove.new.self c.remove-2.new.self _ (ap (λ (g : Grouped). g.members) c.requires.index) c.remove.ensures.members c.remove-2.ensures.members
    (c.removed.ensures.keys ∙ ap (λ (update : Update). update.removed) c.update-update.ensures) (c.into_keys-from.ensures.old ∙ ap old_keys c.requires.rekeyed) in
    subst (λ (members : List Member). shift_fault (2 ^ 62) c.shifted.result.now (keys_of members) ≡ None) (sym left)
    (subst (λ (shifts : List ShiftRange). shift_fault (2 ^ 62) shifts (keys_of (left_members (old_keys (rekeyed_pairs c.args.side c.args.on.now c.args.pick t)) (left_members t.update.removed (keyed c.args.side c.args.on.now c.args.pick t.old.rows)))) ≡ None) (sym (c.shifted.ensures ∙ ap (λ (update : Update). update.shifted) c.update-update.ensures))
    (lawful_left c.args.side c.args.on.now c.args.pick t c.requires.exact))

pub add_rows-requires-clause-there : goal.add_rows-requires-clause-there
add_rows-requires-clause-there g c =
    let t = c.args.input.now in
    let e = c.requires.exact in
    let came_are : c.in_ok-came.came ≡ came c.args.side c.args.on.now c.args.pick t e = c.in_ok-came.ensures ∙ ap₂ united (c.into_keys-from.ensures.new ∙ ap new_keys c.requires.rekeyed) (c.added.ensures.keys ∙ ap (λ (update : Update). update.added) c.update-update.ensures) in
    subst (AreThere t.new) (sym came_are) (came_there c.args.side c.args.on.now c.args.pick t e)

pub add_rows-requires-clause-absent : goal.add_rows-requires-clause-absent
add_rows-requires-clause-absent g c =
    let t = c.args.input.now in
    let e = c.requires.exact in
    let left = left_is _ _ _ _ c.args.index.now c.remove.new.self c.remove-2.new.self _ (ap (λ (g : Grouped). g.members) c.requires.index) c.remove.ensures.members c.remove-2.ensures.members
    (c.removed.ensures.keys ∙ ap (λ (update : Update). update.removed) c.update-update.ensures) (c.into_keys-from.ensures.old ∙ ap old_keys c.requires.rekeyed) in
    let moved : c.shift.new.self.members ≡ brought c.args.side c.args.on.now c.args.pick t e = moved_is _ _ c.remove-2.new.self c.shift.new.self _ left c.in_ok-shift.ensures.members (c.shifted.ensures ∙ ap (λ (update : Update). update.shifted) c.update-update.ensures) in
    let came_are : c.in_ok-came.came ≡ came c.args.side c.args.on.now c.args.pick t e = c.in_ok-came.ensures ∙ ap₂ united (c.into_keys-from.ensures.new ∙ ap new_keys c.requires.rekeyed) (c.added.ensures.keys ∙ ap (λ (update : Update). update.added) c.update-update.ensures) in
    let absent : AllByRecursion (λ key. is_among key (keys_of c.shift.new.self.members) ≡ false) c.in_ok-came.came =
    subst (λ (members : List Member). AllByRecursion (λ key. is_among key (keys_of members) ≡ false) c.in_ok-came.came) (sym moved)
    (subst (AllByRecursion (λ key. is_among key (keys_of (brought c.args.side c.args.on.now c.args.pick t e)) ≡ false)) (sym came_are) (came_absent c.args.side c.args.on.now c.args.pick t e)) in
    absent

pub add_rows-requires-clause-rows : goal.add_rows-requires-clause-rows
add_rows-requires-clause-rows g c =
    let t = c.args.input.now in
    let e = c.requires.exact in
    let left = left_is _ _ _ _ c.args.index.now c.remove.new.self c.remove-2.new.self _ (ap (λ (g : Grouped). g.members) c.requires.index) c.remove.ensures.members c.remove-2.ensures.members
    (c.removed.ensures.keys ∙ ap (λ (update : Update). update.removed) c.update-update.ensures) (c.into_keys-from.ensures.old ∙ ap old_keys c.requires.rekeyed) in
    let moved : c.shift.new.self.members ≡ brought c.args.side c.args.on.now c.args.pick t e = moved_is _ _ c.remove-2.new.self c.shift.new.self _ left c.in_ok-shift.ensures.members (c.shifted.ensures ∙ ap (λ (update : Update). update.shifted) c.update-update.ensures) in
    subst (AllByRecursion (IsRowOf c.args.side c.args.on.now c.args.pick t.new.rows)) (sym moved) (brought_rows c.args.side c.args.on.now c.args.pick t e)

pub add_rows-requires-clause-rising : goal.add_rows-requires-clause-rising
add_rows-requires-clause-rising g c =
    let t = c.args.input.now in
    let e = c.requires.exact in
    let left = left_is _ _ _ _ c.args.index.now c.remove.new.self c.remove-2.new.self _ (ap (λ (g : Grouped). g.members) c.requires.index) c.remove.ensures.members c.remove-2.ensures.members
    (c.removed.ensures.keys ∙ ap (λ (update : Update). update.removed) c.update-update.ensures) (c.into_keys-from.ensures.old ∙ ap old_keys c.requires.rekeyed) in
    let moved : c.shift.new.self.members ≡ brought c.args.side c.args.on.now c.args.pick t e = moved_is _ _ c.remove-2.new.self c.shift.new.self _ left c.in_ok-shift.ensures.members (c.shifted.ensures ∙ ap (λ (update : Update). update.shifted) c.update-update.ensures) in
    subst (λ (members : List Member). IsRising (keys_of members)) (sym moved) (brought_rising c.args.side c.args.on.now c.args.pick t e)

pub returns-clause-index : goal.returns-clause-index
returns-clause-index g c =
    let t = c.args.input.now in
    let e = c.requires.exact in
    let left = left_is _ _ _ _ c.args.index.now c.remove.new.self c.remove-2.new.self _ (ap (λ (g : Grouped). g.members) c.requires.index) c.remove.ensures.members c.remove-2.ensures.members
    (c.removed.ensures.keys ∙ ap (λ (update : Update). update.removed) c.update-update.ensures) (c.into_keys-from.ensures.old ∙ ap old_keys c.requires.rekeyed) in
    let moved : c.shift.new.self.members ≡ brought c.args.side c.args.on.now c.args.pick t e = moved_is _ _ c.remove-2.new.self c.shift.new.self _ left c.in_ok-shift.ensures.members (c.shifted.ensures ∙ ap (λ (update : Update). update.shifted) c.update-update.ensures) in
    let came_are : c.in_ok-came.came ≡ came c.args.side c.args.on.now c.args.pick t e = c.in_ok-came.ensures ∙ ap₂ united (c.into_keys-from.ensures.new ∙ ap new_keys c.requires.rekeyed) (c.added.ensures.keys ∙ ap (λ (update : Update). update.added) c.update-update.ensures) in
    grouped_is c.args.side c.args.on.now c.args.pick t e (groups_of c.add_rows.new.index) c.in_ok-add_rows.ensures.width c.in_ok-add_rows.ensures.rows c.in_ok-add_rows.ensures.rising
    (λ key. c.in_ok-add_rows.ensures.keys key ∙ ap₂ (λ (ks : List ℕ) (members : List Member). is_among key ks || is_among key (keys_of members)) came_are moved)

pub returns-in_err-add_rows-clause-reads : goal.returns-in_err-add_rows-clause-reads
returns-in_err-add_rows-clause-reads g c =
    let t = c.args.input.now in
    let e = c.requires.exact in
    within t.new.width c.args.reads.now c.add_rows.new.reads (length c.in_ok-came.came) (length c.args.rekeyed) (length t.update.added) c.add_rows.ensures.reads
    (subst (λ (n : ℕ). length c.in_ok-came.came ≤ n + length t.update.added) (length-map c.args.rekeyed (λ (pair : KeyPair). pair.new))
    (subst (λ (ks : List ℕ). length ks ≤ length (new_keys c.args.rekeyed) + length t.update.added) (sym (c.in_ok-came.ensures ∙ ap₂ united c.into_keys-from.ensures.new (c.added.ensures.keys ∙ ap (λ (update : Update). update.added) c.update-update.ensures)))
    (length-united (new_keys c.args.rekeyed) t.update.added)))

pub returns-clause-reads : goal.returns-clause-reads
returns-clause-reads g c =
    let t = c.args.input.now in
    let e = c.requires.exact in
    within t.new.width c.args.reads.now c.add_rows.new.reads (length c.in_ok-came.came) (length c.args.rekeyed) (length t.update.added) c.add_rows.ensures.reads
    (subst (λ (n : ℕ). length c.in_ok-came.came ≤ n + length t.update.added) (length-map c.args.rekeyed (λ (pair : KeyPair). pair.new))
    (subst (λ (ks : List ℕ). length ks ≤ length (new_keys c.args.rekeyed) + length t.update.added) (sym (c.in_ok-came.ensures ∙ ap₂ united c.into_keys-from.ensures.new (c.added.ensures.keys ∙ ap (λ (update : Update). update.added) c.update-update.ensures)))
    (length-united (new_keys c.args.rekeyed) t.update.added)))
