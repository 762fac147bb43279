use Rattle.std.proofs.Common.{◌≡◌, ap, ap₂, sym, ◌∙◌, subst}
use Rattle.key_lists.specs.Keys.{without}
use Rattle.row_set.specs.Sets.{united}
use Rattle.tick_model.specs.Rules.{landed}
use Rattle.shift_data.specs.Moves.{IsLawful}
use Rattle.table_update.{specs.Coalesced.{added_by_both, modified_after, modified_by_both, removed_by_both}, proofs.CoalescedKeys.{modified_lawful, new_lawful, united_added, united_modified}, proofs.Parts.{columns_where, made}}
use Rattle.table_update.proofs.update.Update.followed_by.Goals as goal

pub places_of-requires : goal.places_of-requires
places_of-requires c =
    let next = c.args.next.now in
    subst (λ keys. IsLawful next.shifted (without next.removed keys)) (sym c.added.ensures.keys)
    (new_lawful c.args.old.now c.args.self.now next c.requires.applies c.requires.follows c.added.ensures.set.rising)

pub modified_after-requires : goal.modified_after-requires
modified_after-requires c =
    let next = c.args.next.now in
    subst (λ keys. IsLawful next.shifted (without next.removed keys)) (sym c.modified.ensures.keys)
    (modified_lawful c.args.old.now c.args.self.now next c.requires.applies c.requires.follows c.added.ensures.set.rising c.modified.ensures.set.rising)

pub returns : goal.returns
returns c =
    let old = c.args.old.now in
    let first = c.args.self.now in
    let next = c.args.next.now in
    let f = c.requires.applies in
    let n = c.requires.follows in
    let rising = c.added.ensures.set.rising in
    let carried : c.in_ok-carried.carried ≡ landed next.shifted (without next.removed first.added) =
    c.in_ok-carried.ensures ∙ ap (λ keys. landed next.shifted (without next.removed keys)) c.added.ensures.keys in
    let modified : c.in_ok-modified.modified ≡ modified_by_both old first next =
    c.in_ok-modified.ensures.keys ∙ ap₂ (modified_after next) c.modified.ensures.keys carried ∙ united_modified old first next f n rising c.modified.ensures.set.rising c.modified_after.ensures.set in
    let added : c.in_ok-added.added ≡ added_by_both old first next =
    c.in_ok-added.ensures ∙ ap₂ united carried c.added-2.ensures.keys ∙ united_added old first next f n rising c.added-2.ensures.set.rising in
    ap (λ keys. made keys c.in_ok-added.added c.in_ok-modified.modified c.in_ok-shifted.shifted c.columns_with-columns.result) c.in_ok-removed.ensures
    ∙ ap₂ (λ keys others. made (removed_by_both old first next) keys others c.in_ok-shifted.shifted c.columns_with-columns.result) added modified
    ∙ ap₂ (λ shift columns. made (removed_by_both old first next) (added_by_both old first next) (modified_by_both old first next) shift columns) c.in_ok-shifted.ensures
    (c.columns_with-columns.ensures ∙ ap (λ keys. columns_where keys c.columns.result.now c.columns-2.result.now) modified ∙ ap₂ (columns_where (modified_by_both old first next)) c.columns.ensures c.columns-2.ensures)
