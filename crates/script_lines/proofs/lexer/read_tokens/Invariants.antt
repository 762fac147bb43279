use Rattle.std.proofs.Common.{◌≡◌, length}
use denote.Text.{Utf8}
use denote.Shadow.{shadow}
use Rattle.script_lines.{specs.Tokens.tokens_after, proofs.TokenLemmas.behind}
use Rattle.script_lines.proofs.lexer.read_tokens.Given as goal

abbrev pub invariant-loop-rest : goal.invariant-loop-rest
invariant-loop-rest l = shadow (Utf8 l.rest) × (tokens_after 0 l.line ≡ behind l.tokens.items (tokens_after 0 l.rest))

abbrev pub decreases-loop-rest : goal.decreases-loop-rest
decreases-loop-rest l = length l.rest
