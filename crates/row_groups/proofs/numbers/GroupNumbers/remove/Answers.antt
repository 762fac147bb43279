use Rattle.std.proofs.Common.{◌∙◌, None, refl, sym}
use Rattle.row_groups.proofs.Leading.{leads_hashed}
use Rattle.row_groups.proofs.numbers.GroupNumbers.remove.Goals as goal

pub returns-in-None : goal.returns-in-None
returns-in-None c = leads_hashed c.args.cells.now None c.args.self.now (record c.args.self.now { by_cells = c.remove.new.self }) (sym c.place_of.ensures ∙ c.in-None.is) refl c.remove.ensures.updates
