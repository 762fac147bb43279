use Rattle.std.proofs.Common.{◌≡◌, ◌↔◌, ◌∙◌, sym, subst, IsTrue, List, ℕ, ℤ, [], None}
use Rattle.std.proofs.lemmas.Bool.{eq-eqb, eqb-true}
use Rattle.slab.specs.Slab.{slab_len}
use Rattle.row_groups.{specs.Members.{Numbered, group_of, name_at}, proofs.Named.{all_listed, empty_named, none_listed}}
use Rattle.row_groups.proofs.numbered.NumberedGroups.is_empty.Goals as goal

pub returns-clause-unnamed : goal.returns-clause-unnamed
returns-clause-unnamed c =
    let index = c.self.inside.index in
    subst (λ (numbered : Numbered). IsTrue c.is_empty.result ↔ ((number : ℕ) → name_at number numbered.names ≡ None)) c.self.view_is
    ((λ empty. none_listed index.lists.groups (eqb-true (slab_len index.lists.groups) 0 (sym c.is_empty.ensures ∙ empty))), (λ none. c.is_empty.ensures ∙ eq-eqb (slab_len index.lists.groups) 0 (all_listed index.lists.groups none)))

pub returns-clause-empty : goal.returns-clause-empty
returns-clause-empty c = λ empty.
    let index = c.self.inside.index in
    subst (λ (numbered : Numbered). (cells : List ℤ) → group_of cells numbered.members ≡ []) c.self.view_is (empty_named index c.self.invariant (none_listed index.lists.groups (eqb-true (slab_len index.lists.groups) 0 (sym c.is_empty.ensures ∙ empty))))
