use Rattle.std.proofs.Common.{◌≡◌, refl, subst}
use Rattle.std.specs.List.{AllByRecursion}
use Rattle.key_lists.proofs.Every.{every, every-map}
use Rattle.row_groups.{specs.Members.Member, specs.Slots.member_at}
use Rattle.row_groups.proofs.group.Group.cells.Goals as goal

pub returns : goal.returns
returns c =
    let group = c.self.inside in
    subst (AllByRecursion (λ (member : Member). member.cells ≡ group.cells.now)) c.self.view_is
    (every-map (λ (member : Member). member.cells ≡ group.cells.now) (member_at group.handles.now group.table.now group.cells.now) group.rows.now
    (every (λ slot. group.cells.now ≡ group.cells.now) group.rows.now (λ slot. refl)))
