use Rattle.std.proofs.Common.{◌≡◌, ap, ap₂, sym, ◌∙◌, subst}
use Rattle.key_lists.specs.Keys.{without}
use Rattle.row_set.specs.Sets.{united}
use Rattle.tick_model.specs.Rules.{landed}
use Rattle.shift_data.specs.Moves.{IsLawful}
use Rattle.table_update.proofs.CoalescedKeys.{kept_keys, kept_lawful, kept_of_old, new_lawful, places_lawful, united_after}
use Rattle.table_update.proofs.update.Update.apply_at_once.Goals as goal

pub places_of-requires : goal.places_of-requires
places_of-requires c =
    let next = c.args.next.now in
    subst (λ keys. IsLawful next.shifted (without next.removed keys)) (sym c.added.ensures.keys)
    (new_lawful c.args.keys c.args.self.now next c.requires.applies c.requires.follows c.added.ensures.set.rising)

pub apply_both_in_place-requires-clause-lawful : goal.apply_both_in_place-requires-clause-lawful
apply_both_in_place-requires-clause-lawful c =
    let old = c.args.keys in
    let first = c.args.self.now in
    let next = c.args.next.now in
    let f = c.requires.applies in
    let n = c.requires.follows in
    let kept : c.remove_all.new.self ≡ kept_keys old first next f n = c.in_ok-remove_all.ensures.ok ∙ ap (λ keys. without keys old) c.in_ok-removed.ensures ∙ kept_of_old old first next f n c.ranges-2.ensures.keys.rising in
    rw (c.shifted.ensures, kept) (kept_lawful old first next f n)

pub apply_both_in_place-requires-clause-next_lawful : goal.apply_both_in_place-requires-clause-next_lawful
apply_both_in_place-requires-clause-next_lawful c =
    let old = c.args.keys in
    let first = c.args.self.now in
    let next = c.args.next.now in
    let f = c.requires.applies in
    let n = c.requires.follows in
    let kept : c.remove_all.new.self ≡ kept_keys old first next f n = c.in_ok-remove_all.ensures.ok ∙ ap (λ keys. without keys old) c.in_ok-removed.ensures ∙ kept_of_old old first next f n c.ranges-2.ensures.keys.rising in
    rw (c.shifted-2.ensures, c.shifted.ensures, kept) (places_lawful old first next f n c.added.ensures.set.rising)

pub returns : goal.returns
returns c =
    let old = c.args.keys in
    let first = c.args.self.now in
    let next = c.args.next.now in
    let f = c.requires.applies in
    let n = c.requires.follows in
    let kept : c.remove_all.new.self ≡ kept_keys old first next f n = c.in_ok-remove_all.ensures.ok ∙ ap (λ keys. without keys old) c.in_ok-removed.ensures ∙ kept_of_old old first next f n c.ranges-2.ensures.keys.rising in
    let carried : c.in_ok-carried.carried ≡ landed next.shifted (without next.removed first.added) =
    c.in_ok-carried.ensures ∙ ap (λ keys. landed next.shifted (without next.removed keys)) c.added.ensures.keys in
    let places : c.in_ok-places.places ≡ landed next.shifted (landed first.shifted (kept_keys old first next f n)) =
    c.in_ok-places.ensures ∙ ap₂ (λ shifts others. landed others (landed shifts c.remove_all.new.self)) c.shifted.ensures c.shifted-2.ensures ∙ ap (λ keys. landed next.shifted (landed first.shifted keys)) kept in
    c.in_ok-insert_all-2.ensures.ok
    ∙ ap₂ united c.added-2.ensures.keys (c.in_ok-insert_all.ensures.ok ∙ ap₂ united carried places)
    ∙ united_after old first next f n c.added.ensures.set.rising c.added-2.ensures.set.rising
