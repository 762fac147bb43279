use Rattle.std.proofs.Common.{◌≡◌, ◌+◌, ◌++◌, ap, sym, ◌∙◌, take, drop, take-append-drop, arith}
use Rattle.row_set.proofs.gaps.pass.Goals as goal

pub returns-clause-same : goal.returns-clause-same
returns-clause-same c =
    let old = c.args.ranges.now.items in
    let start = c.args.gap.start in
    let end = c.args.gap.end in
    let count = c.args.count in
    let empty : end ≡ start = omega (arith, c.if-gap.false, c.requires.gap.order) in
    ap (λ n. take (start + count) old ++ drop (n + count) old) empty
    ∙ take-append-drop (start + count) old
    ∙ sym (take-append-drop start old)
    ∙ ap (λ n. take start old ++ drop n old) (sym empty)
