use Rattle.std.proofs.Common.{◌≡◌, ap, ap₂, sym, ◌∙◌, subst, ℕ, List}
use Rattle.table_update.specs.Coalesced.{Follow, coalesced, key_pairs}
use Rattle.tick_laws.specs.Checked.{keys_after}
use Rattle.tick_model.{specs.declared.update.KeyPair.KeyPair, specs.Tables.keys, specs.Updates.Update}
use Rattle.tick_table.{specs.Exact.tick_of, specs.Ticking.Ticking}
use Rattle.viewport.{specs.Passing.passing, specs.Standing.IsStanding, specs.Watching.{Watching, passed}, proofs.KeptRows.{both, both_pairs, passed_stands, step_lawful}}
use Rattle.viewport.proofs.viewport.Viewport.pass.Goals as goal

pub coalesce-requires : goal.coalesce-requires
coalesce-requires c =
    let inside = c.self.inside in
    let last = inside.last.new in
    let t = c.args.table.now in
    let s : IsStanding inside.slice last t.old inside.kept =
    subst (λ table. IsStanding inside.slice last table inside.kept) (ap (λ (watching : Watching). watching.table) c.self.view_is ∙ c.requires.stands) c.self.invariant in
    let step_is : c.in_ok-step.step ≡ passing (keys_after (keys last.rows) inside.kept) t.update =
    c.in_ok-step.ensures ∙ ap₂ (λ (ks : List ℕ) (update : Update). passing (keys_after ks inside.kept) update) c.rows.ensures.keys c.update.ensures in
    subst (λ ks. Follow ks inside.kept c.in_ok-step.step) (sym c.rows-2.ensures.keys)
    (subst (λ step. Follow (keys last.rows) inside.kept step) (sym step_is)
    (record { applies = s.lawful; follows = step_lawful inside.slice last inside.kept t c.requires.exact s }))

pub invariant_of-result : goal.invariant_of-result
invariant_of-result c =
    let inside = c.self.inside in
    let last = inside.last.new in
    let t = c.args.table.now in
    let s : IsStanding inside.slice last t.old inside.kept =
    subst (λ table. IsStanding inside.slice last table inside.kept) (ap (λ (watching : Watching). watching.table) c.self.view_is ∙ c.requires.stands) c.self.invariant in
    let step_is : c.in_ok-step.step ≡ passing (keys_after (keys last.rows) inside.kept) t.update =
    c.in_ok-step.ensures ∙ ap₂ (λ (ks : List ℕ) (update : Update). passing (keys_after ks inside.kept) update) c.rows.ensures.keys c.update.ensures in
    let both_is : c.in_ok-kept.kept ≡ both inside.slice last inside.kept t c.requires.exact s =
    c.in_ok-kept.ensures ∙ ap₂ (λ (ks : List ℕ) (step : Update). coalesced ks inside.kept step) c.rows-2.ensures.keys step_is in
    subst (λ (seen : Ticking). IsStanding inside.slice last seen.new c.in_ok-kept.kept) (sym c.of.ensures)
    (subst (λ update. IsStanding inside.slice last t.new update) (sym both_is) (passed_stands inside.slice last inside.kept t c.requires.exact s))

pub returns : goal.returns
returns c =
    let inside = c.self.inside in
    let last = inside.last.new in
    let t = c.args.table.now in
    let s : IsStanding inside.slice last t.old inside.kept =
    subst (λ table. IsStanding inside.slice last table inside.kept) (ap (λ (watching : Watching). watching.table) c.self.view_is ∙ c.requires.stands) c.self.invariant in
    let step_is : c.in_ok-step.step ≡ passing (keys_after (keys last.rows) inside.kept) t.update =
    c.in_ok-step.ensures ∙ ap₂ (λ (ks : List ℕ) (update : Update). passing (keys_after ks inside.kept) update) c.rows.ensures.keys c.update.ensures in
    let both_is : c.in_ok-kept.kept ≡ both inside.slice last inside.kept t c.requires.exact s =
    c.in_ok-kept.ensures ∙ ap₂ (λ (ks : List ℕ) (step : Update). coalesced ks inside.kept step) c.rows-2.ensures.keys step_is in
    ap₂ (λ (seen : Ticking) (kept : List KeyPair). let watching : Watching = record { slice = inside.slice; last = last; table = seen.new; kept = kept } in watching) c.of.ensures
    (ap (key_pairs (keys last.rows)) both_is ∙ both_pairs inside.slice last inside.kept t c.requires.exact s)
    ∙ ap (λ (watching : Watching). passed watching (tick_of t)) c.self.view_is
