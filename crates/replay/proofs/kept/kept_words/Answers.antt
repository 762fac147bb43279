use Rattle.std.proofs.Common.{◌≡◌, ◌+◌, ◌*◌, ◌<◌, ◌≤◌, ◌^◌, ◌∙◌, ap, arith, rules}
use Rattle.replay.{specs.Kept.largest_words, proofs.PublishedTables.{largest_few, product_small}}
use Rattle.replay.proofs.kept.kept_words.Goals as goal

pub overflow_mul-result : goal.overflow_mul-result
overflow_mul-result c =
    let few : c.largest_words.result ≤ 1048576 = omega (arith, c.largest_words.ensures ∙ ap largest_words c.as_slice.ensures, largest_few c.args.run.now.plan c.requires.lawful.plan) in
    let small : c.from.result * (c.from-2.result + 1) * c.largest_words.result < 2 ^ 64 =
    product_small c.from.result c.from-2.result c.largest_words.result (omega (arith, c.from.ensures, c.requires.few_callers)) (omega (arith, c.from-2.ensures, c.requires.few_snaps)) few in
    search rules
