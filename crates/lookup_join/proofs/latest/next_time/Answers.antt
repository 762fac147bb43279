use Rattle.std.proofs.Common.{ap, sym, ◌∙◌, List, arith, length, w64, rules, SFits, ◌≤◌}
use Rattle.std.{specs.Prelude.{Some, slice_get, int_le, option_map}, specs.List.count_by, proofs.lemmas.Int.to_z-of_z, proofs.lemmas.Option.{slice_get-map, slice_get_past}}
use Rattle.lookup_join.proofs.Latests.{next_is}
use Rattle.row_groups.specs.Members.{Member, group_of}
use Rattle.lookup_join.proofs.latest.next_time.Goals as goal

pub returns-then-position-len : goal.returns-then-position-len
returns-then-position-len c =
    let fits : SFits w64 c.at_at.result = search rules in
    let group = group_of c.args.cells.now c.args.index.now.members in
    ap Some (to_z-of_z w64 c.at_at.result fits)
    ∙ sym c.at_at.ensures
    ∙ slice_get-map (λ (member : Member). member.at) c.group-group.result c.count_at_most-position.result
    ∙ ap (λ n. option_map (λ (member : Member). member.at) (slice_get c.group-group.result n)) c.count_at_most-position.ensures
    ∙ ap (λ at. option_map (λ (member : Member). member.at) (slice_get c.group-group.result (count_by (λ (member : Member). int_le member.at at) c.group-group.result))) (to_z-of_z w64 c.args.at c.ranges.at)
    ∙ ap (λ (members : List Member). option_map (λ (member : Member). member.at) (slice_get members (count_by (λ (member : Member). int_le member.at c.args.at) members))) c.group-group.ensures.group
    ∙ sym (next_is c.args.at c.args.cells.now c.args.index.now.members)

pub returns-else-position-len : goal.returns-else-position-len
returns-else-position-len c =
    let past : length c.group-group.result ≤ c.count_at_most-position.result = omega arith in
    ap (option_map (λ (member : Member). member.at)) (sym (slice_get_past c.group-group.result c.count_at_most-position.result past))
    ∙ ap (λ n. option_map (λ (member : Member). member.at) (slice_get c.group-group.result n)) c.count_at_most-position.ensures
    ∙ ap (λ at. option_map (λ (member : Member). member.at) (slice_get c.group-group.result (count_by (λ (member : Member). int_le member.at at) c.group-group.result))) (to_z-of_z w64 c.args.at c.ranges.at)
    ∙ ap (λ (members : List Member). option_map (λ (member : Member). member.at) (slice_get members (count_by (λ (member : Member). int_le member.at c.args.at) members))) c.group-group.ensures.group
    ∙ sym (next_is c.args.at c.args.cells.now c.args.index.now.members)
