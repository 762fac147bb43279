use Rattle.std.proofs.Common.{◌≡◌, ap, ap₂, sym, ◌∙◌, subst, ◌<◌, ◌^◌, ◌==◌, ℕ, List, [], length}
use Rattle.std.{specs.List.AllByRecursion, proofs.lemmas.Bool.eqb-true, proofs.lemmas.List.nil_from_length}
use Rattle.key_lists.specs.Keys.{is_among}
use Rattle.lookup_join.{specs.declared.keyed.Side.TheVariants.Right, specs.declared.pick.Pick.Pick, specs.Notes.Note, specs.Taken.{IsFrom, step_notes, turned_keys, turned_members}, proofs.Before.notes_from, proofs.Latests.timed_index, proofs.Noting.told_all, proofs.Compared.{told_came, turned_small}}
use Rattle.row_groups.specs.Members.{Grouped, Member, groups_of}
use Rattle.tick_model.{specs.declared.table.PlainRow.PlainRow, specs.Tables.keys}
use Rattle.lookup_join.proofs.lookup.turned_set.Goals as goal

turned_same : (pick : Pick) (take : List ℕ) (left left' right right' : List Member) (old new : List PlainRow) (notes notes' : List Note) → left ≡ left' → right ≡ right' → notes ≡ notes' → turned_members pick take left right notes old new notes ≡ turned_members pick take left' right' notes' old new notes'
turned_same pick take left left' right right' old new notes notes' l r n =
    ap₂ (λ left right. turned_members pick take left right notes old new notes) l r ∙ ap (λ notes. turned_members pick take left' right' notes old new notes) n

pub turned_rows-requires-clause-take : goal.turned_rows-requires-clause-take
turned_rows-requires-clause-take g c = c.requires.matched.within

pub turned_rows-requires-clause-timed : goal.turned_rows-requires-clause-timed
turned_rows-requires-clause-timed g c =
    let rows = c.args.rows.now in
    timed_index Right rows.on.now rows.pick rows.right.now.new.rows (groups_of rows.index.now) c.requires.matched.rows

pub turned_rows-requires-clause-there : goal.turned_rows-requires-clause-there
turned_rows-requires-clause-there g c =
    let rows = c.args.rows.now in
    let right = rows.right.now in
    subst (λ (notes : List Note). AllByRecursion (IsFrom rows.pick rows.index.now.members right.old right.new) notes) (sym (c.requires.notes ∙ told_all rows.on.now rows.pick right c.requires.matched.right_exact rows.left.now (sym (c.if-is_empty.ensures.empty ∙ ap (λ ks. length ks == 0) c.prev_rows.ensures.keys))))
    (subst (λ (members : List Member). AllByRecursion (IsFrom rows.pick members right.old right.new) (step_notes rows.on.now rows.pick right)) (sym (ap (λ (index : Grouped). index.members) c.requires.matched.rows))
    (notes_from rows.on.now rows.pick right c.requires.matched.right_exact))

pub from_keys-requires : goal.from_keys-requires
from_keys-requires g c =
    let rows = c.args.rows.now in
    let turned_are : c.in_ok-turned.turned.items ≡ turned_keys rows.on.now rows.pick rows.take.now rows.left.now rows.right.now =
    c.in_ok-turned.ensures.keys ∙ turned_same _ _ _ _ _ _ _ _ _ _ (ap (λ (index : Grouped). index.members) c.requires.left_rows) (ap (λ (index : Grouped). index.members) c.requires.matched.rows) (c.requires.notes ∙ told_all rows.on.now rows.pick rows.right.now c.requires.matched.right_exact rows.left.now (sym (c.if-is_empty.ensures.empty ∙ ap (λ ks. length ks == 0) c.prev_rows.ensures.keys))) in
    record { small = subst (AllByRecursion (λ key. key < 2 ^ 62)) (sym turned_are) (turned_small rows.on.now rows.pick rows.take.now rows.left.now c.requires.matched.left_exact rows.right.now c.requires.matched.right_exact) }

pub returns-then-is_empty-clause-keys : goal.returns-then-is_empty-clause-keys
returns-then-is_empty-clause-keys g c = λ key absent.
    let rows = c.args.rows.now in
    let before = keys rows.left.now.old.rows in
    let none : before ≡ [] = nil_from_length before (eqb-true (length before) 0 (sym (c.if-is_empty.ensures.empty ∙ ap (λ ks. length ks == 0) c.prev_rows.ensures.keys))) in
    ap (is_among key) c.new.ensures ∙ sym (told_came rows.on.now rows.pick rows.take.now rows.left.now c.requires.matched.left_exact rows.right.now c.requires.matched.right_exact none key absent)
