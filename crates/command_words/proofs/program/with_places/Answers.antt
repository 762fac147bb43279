use Rattle.std.proofs.lemmas.Result.{IfOk-weaker}
use Rattle.command_words.proofs.Local.{still_local}
use Rattle.command_words.proofs.program.with_places.Goals as goal

pub returns-clause-local : goal.returns-clause-local
returns-clause-local c = IfOk-weaker c.arg-3.result _ _ (λ with added local.
    still_local _ _ _ added.globals c.word-3.ensures.local
    (still_local _ _ _ c.in_ok-arg-2.ensures.globals c.word-2.ensures.local
    (still_local _ _ _ c.in_ok-arg.ensures.globals c.word.ensures.local local)))
    c.arg-3.ensures
