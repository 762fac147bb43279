use Rattle.std.proofs.lemmas.Result.{IfOk-weaker}
use Rattle.command_words.proofs.Local.{still_local}
use Rattle.command_words.proofs.program.with_options.Goals as goal

pub returns-clause-local : goal.returns-clause-local
returns-clause-local c = IfOk-weaker c.arg-4.result _ _ (λ with added local.
    still_local _ _ _ added.globals c.option-4.ensures.local
    (still_local _ _ _ c.in_ok-arg-3.ensures.globals c.option-3.ensures.local
    (still_local _ _ _ c.in_ok-arg-2.ensures.globals c.option-2.ensures.local
    (still_local _ _ _ c.in_ok-arg.ensures.globals c.option.ensures.local local))))
    c.arg-4.ensures
