use Rattle.std.proofs.Common.{◌≡◌, ap, sym, ◌∙◌, subst, true, ℕ, List}
use Rattle.std.specs.List.{AllByRecursion, AllZip}
use Rattle.key_lists.specs.Keys.{is_among}
use Rattle.row_groups.specs.Members.{IsNumberUnder, groups_of}
use Rattle.shown_rows.proofs.Restricted.{modified_old}
use Rattle.tick_model.{specs.Tables.keys, specs.Updates.{Update, old_keys}}
use Rattle.agg_by.{specs.Steps.keeps_groups, proofs.Answering.own_there, proofs.Touching.{changed_there, removed_there}}
use Rattle.agg_by.proofs.moving.Leaving.of.Goals as goal

pub numbers_of-requires : goal.numbers_of-requires
numbers_of-requires c =
    let t = c.args.input.now in
    own_there c.args.kept.now.by t.old c.requires.exact.tick.old_table (groups_of c.args.kept.now.rows) c.requires.rows c.removed.result.now
    (subst (AllByRecursion (λ key. is_among key (keys t.old.rows) ≡ true)) (sym (c.removed.ensures.keys ∙ ap (λ (update : Update). update.removed) c.update.ensures)) (removed_there t c.requires.exact))

pub numbers_of-requires-2 : goal.numbers_of-requires-2
numbers_of-requires-2 c =
    let t = c.args.input.now in
    own_there c.args.kept.now.by t.old c.requires.exact.tick.old_table (groups_of c.args.kept.now.rows) c.requires.rows c.into_keys-before.result.0
    (subst (AllByRecursion (λ key. is_among key (keys t.old.rows) ≡ true)) (sym (c.into_keys-before.ensures.old ∙ ap old_keys c.in_ok-modified.ensures ∙ sym (modified_old t c.requires.exact))) (changed_there t c.requires.exact))

pub returns : goal.returns
returns c = record {
  removed = subst (λ (ks : List ℕ). AllZip (IsNumberUnder c.args.kept.now.rows) ks c.in_ok-removed.removed.items) (c.removed.ensures.keys ∙ ap (λ (update : Update). update.removed) c.update.ensures) c.in_ok-removed.ensures;
  modified = subst (λ (ks : List ℕ). AllZip (IsNumberUnder c.args.kept.now.rows) ks c.in_ok-changed.changed.items) (c.into_keys-before.ensures.old ∙ ap old_keys c.in_ok-modified.ensures ∙ sym (modified_old c.args.input.now c.requires.exact)) c.in_ok-changed.ensures;
  stay = c.keeps_groups-stay.ensures ∙ ap (λ (by : List ℕ). keeps_groups by c.args.input.now) c.as_slice.ensures;
}
