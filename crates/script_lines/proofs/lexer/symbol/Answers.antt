use Rattle.script_lines.proofs.LexemeLemmas.{IsCharBoundary-front}
use Rattle.script_lines.proofs.lexer.symbol.Goals as goal

pub split_at-requires : goal.split_at-requires
split_at-requires c =
    let ascii = rw c.as_bytes.ensures.value at c.in-Some.ensures.ascii in
    IsCharBoundary-front c.args.text.now c.in-Some.len c.utf8.text ascii.0 ascii.1
