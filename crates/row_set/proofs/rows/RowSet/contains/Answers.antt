use Rattle.std.proofs.Common.{◌∙◌, ap, sym, is_some}
use Rattle.key_lists.specs.Keys.{is_among}
use Rattle.row_set.{specs.Ranges.ranges_of, proofs.Longest.keys_of-ranges_of, proofs.Lookups.among_found}
use Rattle.row_set.proofs.rows.RowSet.contains.Goals as goal

pub returns-clause-member : goal.returns-clause-member
returns-clause-member c =
    c.is_some.ensures
    ∙ ap is_some c.range_at.ensures.range
    ∙ sym (among_found c.args.key (ranges_of c.args.self.now))
    ∙ ap (is_among c.args.key) (keys_of-ranges_of c.args.self.now c.range_at.ensures.keys)
