use Rattle.std.proofs.Common.{[], ◌∙◌, ap, subst, sym}
use Rattle.std.proofs.lemmas.Result.{err_from_is_err_and}
use Rattle.script_lines.specs.Answers.{◌>>=◌, Fails, Gives}
use Rattle.script_reader.{specs.Checks.{Draft, drafted, placed}, specs.SoFar.so_far, proofs.Each.fails_on, proofs.Saying.before_plain}
use Rattle.script_reader.proofs.known.Known.node.Goals as goal

pub returns-in_err-draft : goal.returns-in_err-draft
returns-in_err-draft c =
    let self = c.args.self in
    let p = err_from_is_err_and c.from_residual.result c.from_residual.ensures.1 in
    rw (p.1, p.2)
    (fails_on c.in_err-draft.field-0.0 _ (λ (draft : Draft). placed (so_far self) c.args.name.now draft [])
    (subst (λ before. Fails c.in_err-draft.field-0.0 (drafted before c.args.making.now)) (sym (before_plain self.nodes.nodes.items self.literals)) c.in_err-draft.ensures))

pub returns : goal.returns
returns c =
    let self = c.args.self in
    subst (Gives so_far c.place.result)
    (sym (ap (λ before. drafted before c.args.making.now >>= (λ (draft : Draft). placed (so_far self) c.args.name.now draft [])) (before_plain self.nodes.nodes.items self.literals)
    ∙ ap (λ r. r >>= (λ (draft : Draft). placed (so_far self) c.args.name.now draft [])) c.in_ok-draft.ensures))
    c.place.ensures
