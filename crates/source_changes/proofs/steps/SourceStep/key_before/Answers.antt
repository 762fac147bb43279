use Rattle.std.proofs.Common.{◌≡◌, refl, ap, ◌∙◌, ℕ, List, [], ◌∷◌, filter}
use Rattle.std.specs.Prelude.{slice_get}
use Rattle.key_lists.specs.Keys.{is_among, without}
use Rattle.table_update.proofs.Occupied.{get-filter}
use Rattle.tick_model.{specs.Shifts.{as_key, moved}, specs.Tables.keys}
use Rattle.source_changes.{specs.Stepping.{Stepping, key_before}, proofs.Gathered.one_key}
use Rattle.source_changes.proofs.steps.SourceStep.key_before.Goals as goal

pub returns : goal.returns
returns c =
    let s = c.self.inside in
    let leads : ℕ → _ = λ old. is_among (as_key (moved s.update.shifted old)) (c.args.key ∷ []) in
    let found : c.in_ok-before.before ≡ filter leads (without s.update.removed (keys s.table.now.new.rows)) =
    rw (c.in_ok-before.ensures, c.shifted-shifted.ensures, c.removed-removed.ensures.keys, c.rows-rows.ensures.keys, c.in_ok-insert_range.ensures.ok, c.new-here.ensures, one_key c.args.key) refl in
    c.first.ensures.key ∙ ap (λ (ks : List ℕ). slice_get ks 0) found ∙ get-filter leads (without s.update.removed (keys s.table.now.new.rows))
    ∙ ap (λ (step : Stepping). key_before step c.args.key) c.self.view_is
