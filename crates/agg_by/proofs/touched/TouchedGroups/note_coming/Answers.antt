use Rattle.std.proofs.Common.{◌≡◌, ◌≢◌, ap, sym, ◌∙◌, subst, [], ◌∷◌, ℕ, List, ℤ, Some}
use Rattle.std.proofs.lemmas.Result.{on_ok_weaker}
use Rattle.row_groups.specs.Members.{IsNumberOf, group_of, name_at}
use Rattle.tick_model.specs.Agg.{key_cells as cells_by}
use Rattle.agg_by.{specs.Touched.{HaveNoted, with_number}, proofs.Noted.{noted_alien, noted_own}}
use Rattle.agg_by.proofs.touched.TouchedGroups.note_coming.Goals as goal

pub returns-in-Some : goal.returns-in-Some
returns-in-Some c =
    let kept = c.args.kept.now.rows in
    let before = c.args.self.now in
    let cells = cells_by c.args.kept.now.by c.args.row.now in
    let same : c.as_slice.result.now ≡ cells = c.as_slice.ensures.value ∙ c.in_ok-read_key_cells.ensures in
    on_ok_weaker c.note.result
    (λ noted.
    subst (λ (numbers : List ℕ). HaveNoted kept before numbers (cells ∷ [])) (sym (noted ∙ ap (with_number c.in-Some.number) c.self.view_is))
    (noted_own kept before c.in-Some.number cells (subst (λ (cells : List ℤ). IsNumberOf c.in-Some.number cells kept.names) same c.in-Some.ensures.found)))
    c.note.ensures

pub returns-in-None : goal.returns-in-None
returns-in-None c =
    let kept = c.args.kept.now.rows in
    let before = c.args.self.now in
    let cells = cells_by c.args.kept.now.by c.args.row.now in
    let same : c.as_slice.result.now ≡ cells = c.as_slice.ensures.value ∙ c.in_ok-read_key_cells.ensures in
    subst (λ (numbers : List ℕ). HaveNoted kept before numbers (cells ∷ [])) (sym c.self.view_is)
    (noted_alien kept before cells (subst (λ (cells : List ℤ). (number : ℕ) → name_at number kept.names ≢ Some cells) same (c.find-found.ensures.unnamed c.in-None.is))
    (subst (λ (cells : List ℤ). group_of cells kept.members ≡ []) same (c.find-found.ensures.empty c.in-None.is)))
