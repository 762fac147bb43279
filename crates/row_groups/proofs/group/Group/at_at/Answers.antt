use Rattle.std.proofs.Common.{ap, sym, ◌∙◌, map, option_map, rules, Some, w64}
use Rattle.std.{specs.Prelude.slice_get, proofs.lemmas.Int.to_z-of_z}
use Rattle.row_groups.{specs.Kept.at_in, proofs.Groupings.slot_of_member}
use Rattle.row_groups.proofs.group.Group.at_at.Goals as goal

pub returns : goal.returns
returns c =
    let group = c.self.inside in
    ap (λ members. slice_get (map (λ member. member.at) members) c.args.position) (sym c.self.view_is)
    ∙ slot_of_member (λ member. member.at) group.handles.now group.table.now group.cells.now group.rows.now c.args.position
    ∙ ap (option_map (λ slot. at_in group.table.now slot.handle)) c.get.ensures
    ∙ ap Some (sym (to_z-of_z w64 c.at.result (search rules) ∙ c.at.ensures))
