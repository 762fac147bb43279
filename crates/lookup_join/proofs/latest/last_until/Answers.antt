use Rattle.std.proofs.Common.{◌≡◌, refl, ap, ap₂, sym, ◌∙◌, suc, ℕ, ℤ, List, arith, map, w64, rules, SFits}
use Rattle.std.{specs.Prelude.{Some, slice_get, int_le}, specs.List.count_by, proofs.lemmas.Int.to_z-of_z}
use Rattle.lookup_join.{proofs.Latests.{found_last, none_found}, specs.declared.latest.Found.Found, specs.declared.pick.Pick.TheVariants.Last}
use Rattle.row_groups.specs.Members.{Member, keys_of}
use Rattle.lookup_join.proofs.latest.last_until.Goals as goal

counted : (at at' : ℤ) (group group' : List Member) (count n : ℕ) → at ≡ at' → group ≡ group' → count ≡ count_by (λ (member : Member). int_le member.at at) group → count ≡ n → count_by (λ (member : Member). int_le member.at at') group' ≡ n
counted at at' group group' count n t g c l = sym (ap₂ (λ at (group : List Member). count_by (λ (member : Member). int_le member.at at) group) t g) ∙ sym c ∙ l

pub returns-in_err-last : goal.returns-in_err-last
returns-in_err-last c =
    c.from_residual.ensures
    ∙ none_found c.args.at c.args.cells.now c.args.index.now.members Last
    (counted _ c.args.at c.group-group.result _ c.count_at_most.result 0 (to_z-of_z w64 c.args.at c.ranges.at) c.group-group.ensures.group c.count_at_most.ensures (let none : c.count_at_most.result ≡ 0 = omega arith in none))

pub returns : goal.returns
returns c =
    let fits : SFits w64 c.at_at-time.result = search rules in
    let count = counted _ c.args.at c.group-group.result _ c.count_at_most.result (suc c.in_ok-last.last) (to_z-of_z w64 c.args.at c.ranges.at) c.group-group.ensures.group c.count_at_most.ensures (let more : c.count_at_most.result ≡ suc c.in_ok-last.last = omega arith in more) in
    let here = ap (λ members. slice_get (map (λ (member : Member). member.at) members) c.in_ok-last.last) (sym c.group-group.ensures.group) ∙ c.at_at-time.ensures in
    ap (λ at. Some (let found : Found = record { key = c.key_at-key.result; at = at } in found)) (to_z-of_z w64 c.at_at-time.result fits)
    ∙ found_last c.args.at c.args.cells.now c.args.index.now.members Last (λ behind own. refl) c.in_ok-last.last c.key_at-key.result c.at_at-time.result count
    (ap (λ members. slice_get (keys_of members) c.in_ok-last.last) (sym c.group-group.ensures.group) ∙ c.key_at-key.ensures) here
