use Rattle.std.proofs.Common.{◌∙◌, ◌++◌, ◌∷◌, [], sym, ap}
use Rattle.std.proofs.lemmas.Bool.{ne_eqb}
use Rattle.script_lines.{specs.Lines.without_return, proofs.LineLemmas.{without_return-return, without_return-other}}
use Rattle.script_lines.proofs.reading.without_return.Goals as goal

pub returns-then-last-eq13 : goal.returns-then-last-eq13
returns-then-last-eq13 c =
    let front = c.in-Some.front.now in
    sym (ap without_return c.in-Some.ensures.cases.0 ∙ ap (λ last. without_return (front ++ last ∷ [])) c.if-last-eq13.true ∙ without_return-return front)

pub returns-else-last-eq13 : goal.returns-else-last-eq13
returns-else-last-eq13 c =
    let is = c.in-Some.ensures.cases.0 in
    sym (ap without_return is ∙ without_return-other c.in-Some.front.now c.in-Some.last.now (ne_eqb c.in-Some.last.now 13 c.if-last-eq13.false) ∙ sym is)
