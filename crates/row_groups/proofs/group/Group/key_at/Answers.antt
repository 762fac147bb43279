use Rattle.std.proofs.Common.{ap, sym, ◌∙◌, option_map, unwrap_or, Some, Option, ℕ}
use Rattle.std.specs.Prelude.{slice_get}
use Rattle.row_groups.{specs.Members.keys_of, specs.Slots.key_in, proofs.Groupings.slot_of_member}
use Rattle.row_groups.proofs.group.Group.key_at.Goals as goal

pub returns : goal.returns
returns c =
    let group = c.self.inside in
    ap (λ members. slice_get (keys_of members) c.args.position) (sym c.self.view_is)
    ∙ slot_of_member (λ member. member.key) group.handles.now group.table.now group.cells.now group.rows.now c.args.position
    ∙ ap (option_map (λ slot. key_in group.handles.now slot.handle)) c.get.ensures
    ∙ ap (λ (key : Option ℕ). Some (unwrap_or key 0)) c.key_of.ensures.key
