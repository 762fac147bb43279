use Rattle.std.proofs.Common.{◌≡◌, sym, subst, ℕ, ℤ, Some, option_map, w64}
use Rattle.std.{proofs.lemmas.Int.to_z-of_z, specs.List.{AllByRecursion, AllZip}}
use Rattle.row_groups.{specs.Members.{IsNumberUnder, IsPart, Member, Numbered, member_under}, specs.Indexes.numbered_of, proofs.Named.part_of}
use Rattle.row_groups.proofs.numbered.NumberedGroups.remove_numbered.Goals as goal

pub remove_numbered-requires-clause-numbers : goal.remove_numbered-requires-clause-numbers
remove_numbered-requires-clause-numbers c = subst (λ (numbered : Numbered). AllZip (IsNumberUnder numbered) c.args.keys.now c.args.numbers.now) (sym c.self.view_is) c.requires.numbers

pub remove_numbered-requires-clause-at : goal.remove_numbered-requires-clause-at
remove_numbered-requires-clause-at c =
    let At = λ (numbered : Numbered) (at : ℤ). AllByRecursion (λ (key : ℕ). option_map (λ (member : Member). member.at) (member_under key numbered.members) ≡ Some at) c.args.keys.now in
    subst (At (numbered_of c.self.inside.index)) (sym (to_z-of_z w64 c.args.at c.ranges.at)) (subst (λ (numbered : Numbered). At numbered c.args.at) (sym c.self.view_is) c.requires.at)

pub returns-clause-names : goal.returns-clause-names
returns-clause-names c =
    let new = c.remove_numbered.new.self in
    subst (λ (numbered : Numbered). IsPart (numbered_of new) numbered) c.self.view_is
    (part_of new c.self.inside.index c.remove_numbered.ensures.sound c.self.invariant c.remove_numbered.ensures.fewer)
