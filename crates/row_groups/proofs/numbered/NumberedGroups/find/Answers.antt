use Rattle.std.proofs.Common.{◌≡◌, ◌≢◌, sym, ◌∙◌, subst, ℕ, [], Some, IfSome}
use Rattle.row_groups.{specs.Members.{IsNumberOf, Numbered, group_of, name_at}, proofs.Named.{empty_under, found_is, unnamed}}
use Rattle.row_groups.proofs.numbered.NumberedGroups.find.Goals as goal

pub returns-clause-found : goal.returns-clause-found
returns-clause-found c =
    subst (λ (numbered : Numbered). IfSome c.get.result (λ number. IsNumberOf number c.args.cells.now numbered.names)) c.self.view_is
    (found_is c.self.inside.index c.self.invariant c.args.cells.now c.get.result (sym c.get.ensures))

pub returns-clause-unnamed : goal.returns-clause-unnamed
returns-clause-unnamed c = λ none.
    subst (λ (numbered : Numbered). (number : ℕ) → name_at number numbered.names ≢ Some c.args.cells.now) c.self.view_is
    (unnamed c.self.inside.index c.self.invariant c.args.cells.now (sym c.get.ensures ∙ none))

pub returns-clause-empty : goal.returns-clause-empty
returns-clause-empty c = λ none.
    subst (λ (numbered : Numbered). group_of c.args.cells.now numbered.members ≡ []) c.self.view_is
    (empty_under c.self.inside.index c.self.invariant c.args.cells.now (sym c.get.ensures ∙ none))
