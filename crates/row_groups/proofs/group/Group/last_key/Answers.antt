use Rattle.std.proofs.Common.{◌-◌, ap, sym, ◌∙◌, length, option_map, unwrap_or, Some, Option, ℕ}
use Rattle.std.{specs.Prelude.slice_get, proofs.lemmas.List.length-map}
use Rattle.row_groups.{specs.Members.keys_of, specs.Slots.{key_in, member_at}, proofs.Groupings.slot_of_member}
use Rattle.row_groups.proofs.group.Group.last_key.Goals as goal

pub returns : goal.returns
returns c =
    let group = c.self.inside in
    let entries = group.handles.now in
    let rows = group.rows.now in
    sym (
    ap (λ members. slice_get (keys_of members) (length members - 1)) (sym c.self.view_is)
    ∙ slot_of_member (λ member. member.key) entries group.table.now group.cells.now rows _
    ∙ ap (λ n. option_map (λ slot. key_in entries slot.handle) (slice_get rows (n - 1))) (length-map rows (member_at entries group.table.now group.cells.now))
    ∙ ap (option_map (λ slot. key_in entries slot.handle)) (sym c.last.ensures ∙ c.in_ok-slot.was)
    ∙ ap (λ (key : Option ℕ). Some (unwrap_or key 0)) c.key_of.ensures.key
    )
