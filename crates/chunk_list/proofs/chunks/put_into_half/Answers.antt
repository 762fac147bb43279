use Rattle.std.proofs.Common.{◌++◌, ◌∙◌, ap, arith}
use Rattle.chunk_list.proofs.Halves.{insert_behind}
use Rattle.chunk_list.proofs.chunks.put_into_half.Goals as goal

pub returns-else-offset-below-clause-items : goal.returns-else-offset-below-clause-items
returns-else-offset-below-clause-items g c =
    ap (λ xs. c.args.lower.now.items ++ xs) c.put_within-else-offset-below.ensures.items
    ∙ insert_behind c.args.lower.now.items c.args.upper.now.items c.args.offset _ c.args.item (omega (arith, c.args.lower.now.ok.0))
