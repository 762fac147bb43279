use Rattle.std.proofs.Common.{◌≡◌, ap, sym, ◌∙◌, List, ℕ, true}
use Rattle.row_set.specs.Sets.{common}
use Rattle.tick_model.specs.Changes.{is_none}
use Rattle.update_text.proofs.ReadBack.{apart_from, empty_test, none_common}
use Rattle.update_text.proofs.read_back.is_consistent.Goals as goal

pub returns-clause-yes : goal.returns-clause-yes
returns-clause-yes c test =
    let update = c.args.update.now in
    let parts = c.belong_together.ensures.yes test in
    let both = c.in_ok-both.ensures ∙ ap (λ (ks : List ℕ). common ks c.added.result.now) c.modified-modified.ensures.keys ∙ ap (λ (ks : List ℕ). common update.modified ks) c.added.ensures.keys in (
      apart_from update.added update.modified c.in_ok-both.both both (sym c.is_empty-is_apart.ensures.empty ∙ parts.0),
      sym (c.is_empty-no_columns.ensures ∙ ap is_none c.columns.ensures) ∙ parts.1 ∙ c.is_empty-no_rows.ensures.empty ∙ empty_test c.modified-modified.result.now ∙ ap is_none c.modified-modified.ensures.keys,
    )

pub returns-clause-told : goal.returns-clause-told
returns-clause-told c consistent =
    let update = c.args.update.now in
    let both = c.in_ok-both.ensures ∙ ap (λ (ks : List ℕ). common ks c.added.result.now) c.modified-modified.ensures.keys ∙ ap (λ (ks : List ℕ). common update.modified ks) c.added.ensures.keys in
    c.belong_together.ensures.told
    (c.is_empty-is_apart.ensures.empty ∙ none_common update.added update.modified c.in_ok-both.both both consistent.0)
    (c.is_empty-no_columns.ensures ∙ ap is_none c.columns.ensures ∙ consistent.1 ∙ sym (c.is_empty-no_rows.ensures.empty ∙ empty_test c.modified-modified.result.now ∙ ap is_none c.modified-modified.ensures.keys))
