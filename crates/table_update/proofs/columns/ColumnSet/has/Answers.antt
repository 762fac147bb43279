use Rattle.std.proofs.Common.{ap, ◌∙◌, sym, ◌==◌}
use Rattle.std.proofs.lemmas.Nat.Bits.{shr_and_one}
use Rattle.key_lists.specs.Keys.{is_among}
use Rattle.table_update.proofs.ColumnLists.{among-columns}
use Rattle.table_update.proofs.columns.ColumnSet.has.Goals as goal

pub returns : goal.returns
returns c =
    ap (λ n. n == 1) (shr_and_one c.self.inside.bits c.args.column)
    ∙ sym (among-columns c.args.column c.self.inside.bits c.requires)
    ∙ ap (is_among c.args.column) c.self.view_is
