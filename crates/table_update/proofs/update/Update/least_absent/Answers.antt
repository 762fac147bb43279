use Rattle.std.proofs.Common.{◌≡◌, refl, sym, ap, ap₂, ◌∙◌, ◌==◌, true≢false, false, length, ℕ, List, Option, Some, None, not}
use Rattle.std.{specs.Prelude.find, specs.Option.is_some}
use Rattle.key_lists.specs.Keys.{is_among, without}
use Rattle.row_set.specs.Sets.{common, united}
use Rattle.tick_laws.proofs.EmptyUpdates.{none_is}
use Rattle.tick_model.specs.Rules.{landed}
use Rattle.table_update.{proofs.Occupied.absent_places, proofs.StillKeys.none_absent}
use Rattle.table_update.proofs.update.Update.least_absent.Goals as goal

abbrev least : List ℕ → List ℕ → Option ℕ
least keys others = find (λ key. not (is_among key others)) keys

unset : (key : Option ℕ) → is_some key ≡ false → key ≡ None
unset None e = refl
unset (Some key) e = absurd (true≢false e)

pub returns : goal.returns
returns c =
    let places = landed c.args.self.now.shifted (without c.args.self.now.removed c.args.old.now) in
    let modified = c.args.self.now.modified in
    let here : c.in_ok-occupied.field-0 ≡ common modified places = c.in_ok-occupied.ensures ∙ ap (λ keys. common keys places) c.modified-modified.ensures.keys in
    let present : c.in_ok-present.present ≡ united (common modified places) c.args.self.now.added = c.in_ok-present.ensures ∙ ap₂ united here c.added.ensures.keys in
    c.least_absent-2.ensures ∙ ap₂ least c.modified-modified.ensures.keys present ∙ absent_places modified places c.args.self.now.added

pub returns-then-is_none : goal.returns-then-is_none
returns-then-is_none c =
    let self = c.args.self.now in
    sym (none_absent self.shifted self.removed c.args.old.now self.added self.modified (none_is self.shifted (sym c.if-is_still.ensures)) (ap (λ (keys : List ℕ). length keys == 0) (sym c.removed.ensures.keys) ∙ sym c.if-is_empty.ensures.empty)
    (ap (λ keys. least keys c.args.old.now) (sym c.modified-modified.ensures.keys) ∙ sym c.least_absent.ensures ∙ unset c.least_absent.result c.if-is_none.ensures))
