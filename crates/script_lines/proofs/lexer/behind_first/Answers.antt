use Rattle.std.proofs.Common.{◌≡◌, arith}
use Rattle.script_lines.proofs.LexemeLemmas.{IsCharBoundary-ascii}
use Rattle.script_lines.proofs.lexer.behind_first.Goals as goal

pub split_at-requires : goal.split_at-requires
split_at-requires c =
    IsCharBoundary-ascii c.args.text.now 1 c.utf8.text (omega arith) (λ k before. let first : k ≡ 0 = omega arith in rw first c.requires.ascii)
