use Rattle.std.proofs.Common.{◌-◌, ◌*◌, ◌≤◌, ◌∙◌, drop, length, arith, inl, inr}
use Rattle.std.proofs.lemmas.Bool.{cases_lt}
use Rattle.row_set.proofs.Counts.{few_before}
use Rattle.row_set.proofs.blocks.recount_between.Goals as goal

pub recount_blocks-requires-clause-begin : goal.recount_blocks-requires-clause-begin
recount_blocks-requires-clause-begin c = c.requires.before c.min-first.result (omega (arith, c.min-first.ensures)) (omega (arith, c.min-first.ensures))

pub move_starts-requires-clause-few : goal.move_starts-requires-clause-few
move_starts-requires-clause-few c = λ block past few.
    let within : block ≤ length c.args.starts.now = omega (arith, few, c.recount_blocks.ensures.len) in
    omega (
      arith,
      c.recount_blocks.ensures.after block past,
      c.requires.after block within (omega (arith, past, within, c.min-last.ensures)),
      c.requires.few,
      few_before (16 * block - c.args.front) (drop c.args.front c.args.all.now) c.requires.ranges,
    )

pub move_starts-requires-clause-some : goal.move_starts-requires-clause-some
move_starts-requires-clause-some c = λ block past few.
    let within : block ≤ length c.args.starts.now = omega (arith, few, c.recount_blocks.ensures.len) in
    omega (arith, c.recount_blocks.ensures.after block past, c.requires.after block within (omega (arith, past, within, c.min-last.ensures)))

pub returns-clause-counts : goal.returns-clause-counts
returns-clause-counts c = record {
  counted = λ block few.
      let within : block ≤ length c.args.starts.now = omega (arith, few, c.recount_blocks.ensures.len, c.move_starts.ensures.len) in
      elim (cases_lt c.min-last.result block) [
        | inl past ↦
            omega (
              arith,
              c.move_starts.ensures.after block past (omega (arith, within, c.recount_blocks.ensures.len)),
              c.recount_blocks.ensures.after block past,
              c.requires.after block within (omega (arith, past, within, c.min-last.ensures)),
            )
        | inr to_last ↦
            c.move_starts.ensures.before block to_last
            ∙ elim (cases_lt c.min-first.result block) [
              | inl past ↦ c.recount_blocks.ensures.counted block past to_last
              | inr to_first ↦ c.recount_blocks.ensures.before block to_first ∙ c.requires.before block within (omega (arith, to_first, c.min-first.ensures))
            ]
      ];
  within = omega (arith, c.requires.starts, c.recount_blocks.ensures.len, c.move_starts.ensures.len);
}
