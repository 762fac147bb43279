use Rattle.std.proofs.Common.{ap, sym, ◌∙◌, option_map, unwrap_or, Some, Option, ℕ}
use Rattle.std.specs.Prelude.{slice_get}
use Rattle.row_groups.{specs.Members.keys_of, specs.Slots.key_in, proofs.Groupings.slot_of_member}
use Rattle.row_groups.proofs.group.Group.first_key.Goals as goal

pub returns : goal.returns
returns c =
    let group = c.self.inside in
    sym (
    ap (λ members. slice_get (keys_of members) 0) (sym c.self.view_is)
    ∙ slot_of_member (λ member. member.key) group.handles.now group.table.now group.cells.now group.rows.now 0
    ∙ ap (option_map (λ slot. key_in group.handles.now slot.handle)) (sym c.first.ensures ∙ c.in_ok-slot.was)
    ∙ ap (λ (key : Option ℕ). Some (unwrap_or key 0)) c.key_of.ensures.key
    )
