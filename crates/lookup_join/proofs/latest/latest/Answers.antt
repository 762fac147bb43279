use Rattle.std.proofs.Common.{ap, sym, ◌∙◌, ◌-◌, cond, length, List, subst, ℤ, w64, None}
use Rattle.std.{specs.Prelude.{int_le, option_map, pos, slice_get}, proofs.lemmas.Int.to_z-of_z}
use Rattle.lookup_join.{proofs.Latests.{found_final, found_first, match_as_last}, specs.declared.latest.Found.Found, specs.declared.pick.Pick.Pick, specs.declared.pick.Pick.TheVariants.Last, specs.Latest.{AreTimed, match_of}}
use Rattle.row_groups.specs.Members.{Member, keys_of}
use Rattle.lookup_join.proofs.latest.latest.Goals as goal

pub returns-in-First : goal.returns-in-First
returns-in-First c =
    let members = c.args.index.now.members in
    let cells = c.args.cells.now in
    let at = c.args.at in
    c.untimed.ensures
    ∙ ap (λ (moment : ℤ). cond (int_le (pos 0) moment) (option_map (λ key. let found : Found = record { key = key; at = pos 0 } in found) c.first_key.result) None) (to_z-of_z w64 at c.ranges.at)
    ∙ found_first at cells members (subst (λ (pick : Pick). AreTimed pick members) c.in-First.is c.requires) c.first_key.result (c.first_key.ensures ∙ ap (λ members. slice_get (keys_of members) 0) c.group.ensures.group)
    ∙ ap (λ (pick : Pick). option_map (λ (member : Member). let found : Found = record { key = member.key; at = member.at } in found) (match_of pick cells at members)) (sym c.in-First.is)

pub returns-in-Last : goal.returns-in-Last
returns-in-Last c =
    let members = c.args.index.now.members in
    let cells = c.args.cells.now in
    let at = c.args.at in
    c.untimed-in-Last.ensures
    ∙ ap (λ (moment : ℤ). cond (int_le (pos 0) moment) (option_map (λ key. let found : Found = record { key = key; at = pos 0 } in found) c.last_key.result) None) (to_z-of_z w64 at c.ranges.at)
    ∙ found_final at cells members (subst (λ (pick : Pick). AreTimed pick members) c.in-Last.is c.requires) c.last_key.result (c.last_key.ensures ∙ ap (λ (members : List Member). slice_get (keys_of members) (length members - 1)) c.group-in-Last.ensures.group)
    ∙ ap (λ (pick : Pick). option_map (λ (member : Member). let found : Found = record { key = member.key; at = member.at } in found) (match_of pick cells at members)) (sym c.in-Last.is)

pub returns-in-Latest : goal.returns-in-Latest
returns-in-Latest c =
    let members = c.args.index.now.members in
    let cells = c.args.cells.now in
    c.last_until.ensures
    ∙ ap (option_map (λ (member : Member). let found : Found = record { key = member.key; at = member.at } in found))
    (ap (λ (at : ℤ). match_of Last cells at members) (to_z-of_z w64 c.args.at c.ranges.at) ∙ match_as_last _ _ cells c.args.at members c.in-Latest.is)
