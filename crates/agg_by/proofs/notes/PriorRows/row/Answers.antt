use Rattle.std.proofs.Common.{◌≡◌, ap, sym, ◌∙◌, Some, None, List, ℤ, if◌then◌else◌}
use Rattle.std.{specs.Result.result_ok, proofs.lemmas.Option.slice_get_within}
use Rattle.row_set.specs.Sets.{found}
use Rattle.tick_model.specs.Tables.{cells_at}
use Rattle.agg_by.proofs.Noting.{found_ok, noted_at, place_of_found, room_at}
use Rattle.agg_by.proofs.notes.PriorRows.row.Goals as goal

pub row_at-requires : goal.row_at-requires
row_at-requires c =
    let keys = c.args.self.now.keys in
    let is : result_ok (found c.args.key keys) ≡ Some c.in_ok-position.position = ap result_ok (sym c.find.ensures.position) ∙ sym c.ok.ensures.value ∙ c.in_ok-position.was in
    room_at c.in_ok-position.position c.args.self.now.width _ _ (slice_get_within keys c.in_ok-position.position c.args.key (place_of_found c.args.key keys c.in_ok-position.position c.find.ensures.keys.rising is)) c.requires

pub returns : goal.returns
returns c = λ table noted.
    let keys = c.args.self.now.keys in
    let is : result_ok (found c.args.key keys) ≡ Some c.in_ok-position.position = ap result_ok (sym c.find.ensures.position) ∙ sym c.ok.ensures.value ∙ c.in_ok-position.was in
    ap (λ (row : List ℤ). Some row) (c.row_at.ensures ∙ noted_at c.args.self.now table c.in_ok-position.position c.args.key noted (place_of_found c.args.key keys c.in_ok-position.position c.find.ensures.keys.rising is))
    ∙ sym (ap (λ b. if b then Some (cells_at c.args.key table.rows) else None) (found_ok c.args.key keys c.in_ok-position.position is).0)
