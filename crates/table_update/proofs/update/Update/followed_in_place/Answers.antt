use Rattle.std.proofs.Common.{◌≡◌, ap, ap₂, sym, ◌∙◌, subst}
use Rattle.key_lists.specs.Keys.{IsRising, without}
use Rattle.row_set.specs.Sets.{united}
use Rattle.tick_model.{specs.Shifts.shifted, specs.Updates.Update}
use Rattle.table_update.{specs.Coalesced.{added_by_both, kept_by_both, modified_by_both, removed_by_both}, proofs.Parts.{columns_where, made}, proofs.StillKeys.{still_added, still_modified, still_removed, still_shifted}}
use Rattle.table_update.proofs.update.Update.followed_in_place.Goals as goal

pub returns : goal.returns
returns c =
    let old = c.args.old.now in
    let first = c.args.self in
    let next = c.args.next.now in
    let f = c.requires.follow.applies in
    let n = c.requires.follow.follows in
    let still = c.requires.still in
    let next_still = c.requires.next_still in
    let own_removed : c.self.inside.removed ≡ first.removed = ap (λ (update : Update). update.removed) c.self.view_is in
    let own_added : c.self.inside.added ≡ first.added = ap (λ (update : Update). update.added) c.self.view_is in
    let own_modified : c.self.inside.modified ≡ first.modified = ap (λ (update : Update). update.modified) c.self.view_is in
    let own_shifted : c.self.inside.shifted ≡ first.shifted = ap (λ (update : Update). update.shifted) c.self.view_is in
    let own_columns : c.self.inside.columns ≡ first.columns = ap (λ (update : Update). update.columns) c.self.view_is in
    let removed_rise : IsRising first.removed = subst IsRising own_removed c.in_ok-removed.ensures.set in
    let added_rise : IsRising first.added = subst IsRising own_added c.in_ok-carried.ensures.set in
    let modified_rise : IsRising first.modified = subst IsRising own_modified c.in_ok-kept.ensures.set in
    let gone : c.in_ok-gone.gone ≡ without first.added next.removed = c.in_ok-gone.ensures ∙ ap₂ without own_added c.removed.ensures.keys in
    let removed : c.in_ok-removed.removed ≡ removed_by_both old first next =
    c.in_ok-removed.ensures.keys ∙ ap₂ united gone own_removed ∙ still_removed old first next f n still next_still added_rise c.ranges-2.ensures.keys.rising removed_rise in
    let carried : c.in_ok-carried.carried ≡ without next.removed first.added = c.in_ok-carried.ensures.keys ∙ ap₂ without c.removed-2.ensures.keys own_added in
    let changed : c.in_ok-changed.changed ≡ without (without next.removed first.added) next.modified = c.in_ok-changed.ensures ∙ ap₂ without carried c.modified.ensures.keys in
    let kept : c.in_ok-kept.kept ≡ without next.removed first.modified = c.in_ok-kept.ensures.keys ∙ ap₂ without c.removed-3.ensures.keys own_modified in
    let modified : c.in_ok-modified.modified ≡ modified_by_both old first next =
    c.in_ok-modified.ensures.keys ∙ ap₂ united changed kept ∙ still_modified old first next f n still next_still added_rise modified_rise c.modified.ensures.set.rising in
    let added : c.in_ok-added.added ≡ added_by_both old first next =
    c.in_ok-added.ensures.keys ∙ ap₂ united c.added.ensures.keys carried ∙ still_added old first next f n still next_still added_rise c.added.ensures.set.rising in
    let shift : c.self.inside.shifted ≡ shifted (kept_by_both old first next) = own_shifted ∙ still ∙ sym (still_shifted old first next f n still next_still) in
    let columns : c.columns_with-columns.result ≡ columns_where (modified_by_both old first next) first.columns next.columns =
    c.columns_with-columns.ensures ∙ ap₂ (λ keys columns. columns_where keys columns c.columns.result.now) modified own_columns ∙ ap (columns_where (modified_by_both old first next) first.columns) c.columns.ensures in
    ap₂ (λ removed added. made removed added c.in_ok-modified.modified c.self.inside.shifted c.columns_with-columns.result) removed added
    ∙ ap₂ (λ modified shift. made (removed_by_both old first next) (added_by_both old first next) modified shift c.columns_with-columns.result) modified shift
    ∙ ap (made (removed_by_both old first next) (added_by_both old first next) (modified_by_both old first next) (shifted (kept_by_both old first next))) columns
