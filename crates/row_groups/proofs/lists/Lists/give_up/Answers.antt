use Rattle.std.proofs.Common.{None, refl, sym, ◌∙◌, subst}
use Rattle.row_groups.{specs.Rows.Leads, proofs.Listed.{GivesUp, gives_numbered, gives_rows}}
use Rattle.row_groups.proofs.lists.Lists.give_up.Goals as goal

gives : (c : goal.After-drop-group-in-Some) → GivesUp c.args.number c.in-Some.group c.args.self.now (record c.args.self.now { numbers = c.remove.new.self; groups = c.try_remove.new.self })
gives c = record {
  sound = c.requires;
  was = sym c.try_remove.ensures.value ∙ c.in-Some.is;
  leads = subst (λ cells. Leads cells None c.args.self.now.numbers c.remove.new.self) c.as_slice.ensures.value c.remove.ensures;
  gone = c.try_remove.ensures.updates.changed;
  others = c.try_remove.ensures.updates.others;
  crowded = refl;
}

pub returns-in-Some-clause-rows : goal.returns-in-Some-clause-rows
returns-in-Some-clause-rows c = gives_rows c.args.number c.in-Some.group c.args.self.now _ (gives c)

pub returns-in-Some-clause-sound : goal.returns-in-Some-clause-sound
returns-in-Some-clause-sound c =
    let is = gives_numbered c.args.number c.in-Some.group c.args.self.now _ (gives c) in
    record { numbers = is.numbers; cells = is.cells; alone = is.alone }
