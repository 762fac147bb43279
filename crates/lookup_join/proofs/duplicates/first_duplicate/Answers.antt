use Rattle.std.proofs.Common.{◌≡◌, refl, ap, ap₂, sym, ◌∙◌, subst, arith, ◌≤◌, None, map, length, Option, ◌++◌, ◌∷◌, [], append_assoc, true, ℕ, List, ℤ}
use Rattle.std.{proofs.lemmas.List.{length-map, map-append}, proofs.lemmas.List.Sums.fold-append, proofs.lemmas.Option.same_Some}
use Rattle.key_lists.specs.Keys.{is_among}
use Rattle.lookup_join.{specs.declared.duplicates.Duplicate.Duplicate, specs.Duplicates.{cells_under, earlier, faulty_group, first_with_two, least_fault}, specs.Notes.Note, proofs.Walks.under_some}
use Rattle.row_groups.{proofs.Keys.some_of, specs.Members.{Member, group_of, keys_of}}
use Rattle.row_set.proofs.Yielded.{next_has, yielded_all}
use Rattle.lookup_join.proofs.duplicates.first_duplicate.Goals as goal

-- where no two right rows are in one group, there is none
none_two : (left right : List ℕ) → length right ≤ 1 → first_with_two left right ≡ None
none_two [] right h = refl
none_two (key ∷ others) [] h = refl
none_two (key ∷ others) (only ∷ []) h = refl
none_two (key ∷ others) (first ∷ second ∷ more) h = absurd (omega arith)

none_alone : (left right : List Member) → ((cells : List ℤ) → length (group_of cells right) ≤ 1) → (groups : List (List ℤ)) → least_fault left right None groups ≡ None
none_alone left right alone [] = refl
none_alone left right alone (cells ∷ groups) =
    ap (λ found. least_fault left right found groups) (none_two (keys_of (group_of cells left)) (keys_of (group_of cells right)) (subst (λ n. n ≤ 1) (sym (length-map (group_of cells right) (λ (member : Member). member.key))) (alone cells)))
    ∙ none_alone left right alone groups

pub returns-then-are_alone : goal.returns-then-are_alone
returns-then-are_alone c = sym (none_alone c.args.left.now.members c.args.right.now.members (c.are_alone.ensures c.if-are_alone.true) (map (λ (note : Note). note.cells) c.args.notes.now.notes ++ map (cells_under c.args.left.now.members) c.args.came.now))

pub unwrap-cells-requires : goal.unwrap-cells-requires
unwrap-cells-requires c =
    let left = c.args.left.now.members in
    let there = next_has c.loop-key.yielded c.into_iter-key-iterator.ensures.into_iter_gives c.loop-key.yielded_by c.in-Some.ensures.steps (λ key. is_among key (keys_of left) ≡ true) c.requires in
    some_of _ c.cells_of.result (cells_under left c.in-Some.key) (c.cells_of.ensures.cells ∙ under_some left c.in-Some.key there)

pub loop-key-preserved : goal.loop-key-preserved
loop-key-preserved c =
    let left = c.args.left.now.members in
    let right = c.args.right.now.members in
    let key = c.in-Some.key in
    let yielded = c.loop-key.yielded in
    let there = next_has yielded c.into_iter-key-iterator.ensures.into_iter_gives c.loop-key.yielded_by c.in-Some.ensures.steps (λ key. is_among key (keys_of left) ≡ true) c.requires in
    let own : c.unwrap-cells.result.now ≡ cells_under left key = same_Some _ _ (rw c.unwrap-cells.ensures at c.cells_of.ensures.cells ∙ under_some left key there) in
    let noted = map (λ (note : Note). note.cells) c.args.notes.now.notes in
    c.earlier_of-least.ensures ∙ ap₂ earlier c.loop-key.invariant (c.duplicate_in.ensures ∙ ap (faulty_group left right) own)
    ∙ sym (fold-append (λ (found : Option Duplicate) cells. earlier found (faulty_group left right cells)) None (noted ++ map (cells_under left) yielded) (cells_under left key ∷ []))
    ∙ ap (least_fault left right None) (append_assoc noted (map (cells_under left) yielded) (cells_under left key ∷ []) ∙ ap (λ cells. noted ++ cells) (sym (map-append (cells_under left) yielded (key ∷ []))))

pub returns : goal.returns
returns c =
    let left = c.args.left.now.members in
    c.loop-key.invariant
    ∙ ap (λ (keys : List ℕ). least_fault left c.args.right.now.members None (map (λ (note : Note). note.cells) c.args.notes.now.notes ++ map (cells_under left) keys))
    (yielded_all c.loop-key.yielded c.into_iter-key-iterator.ensures.into_iter_gives c.loop-key.yielded_by c.in-None.ensures.steps.0)
