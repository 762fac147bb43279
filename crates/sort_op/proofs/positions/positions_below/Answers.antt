use Rattle.std.proofs.Common.{◌∙◌, ◌-◌, ap, arith}
use Rattle.row_set.{specs.Ranges.keys_from, specs.Sets.united}
use Rattle.sort_op.proofs.PlacesFound.{all_below}
use Rattle.sort_op.proofs.positions.positions_below.Goals as goal

pub returns : goal.returns
returns c = all_below c.args.count c.insert_range.new.self (omega arith) (c.in_ok-insert_range.ensures.ok ∙ ap (united (keys_from 0 (c.args.count - 1))) c.new-positions.ensures)
