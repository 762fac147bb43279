use Rattle.std.proofs.lemmas.Result.{IfOk-weaker}
use Rattle.command_words.proofs.Local.{still_local}
use Rattle.command_words.proofs.program.with_files.Goals as goal

pub returns-clause-local : goal.returns-clause-local
returns-clause-local c = IfOk-weaker c.arg-2.result _ _ (λ with added local.
    still_local _ _ _ added.globals c.word-2.ensures.local
    (still_local _ _ _ c.in_ok-arg.ensures.globals c.word.ensures.local local))
    c.arg-2.ensures
