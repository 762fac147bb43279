use Rattle.std.proofs.Common.{subst}
use Rattle.row_groups.{specs.Members.{IsPart, Numbered}, specs.Indexes.numbered_of, proofs.Named.part_of}
use Rattle.row_groups.proofs.numbered.NumberedGroups.remove.Goals as goal

pub returns-clause-names : goal.returns-clause-names
returns-clause-names c =
    let new = c.remove.new.self in
    subst (λ (numbered : Numbered). IsPart (numbered_of new) numbered) c.self.view_is
    (part_of new c.self.inside.index c.remove.ensures.sound c.self.invariant c.remove.ensures.fewer)
