use Rattle.script_lines.proofs.LexemeLemmas.{word_boundary}
use Rattle.script_lines.proofs.lexer.word.Goals as goal

pub split_at-requires : goal.split_at-requires
split_at-requires c = word_boundary c.args.text.now c.name_len.result c.utf8.text (rw c.as_bytes.ensures.value at c.name_len.ensures)
