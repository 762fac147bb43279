use Rattle.feed_run.proofs.ProgramLemmas.{tells_verdict, tells_load_fault, tells_write_fault, tells_memory, tells_unread, tells_failed, is_complete}
use Rattle.feed_run.proofs.program.tick_main.Goals as goal

pub returns-clause-verdict : goal.returns-clause-verdict
returns-clause-verdict g c = λ t. tells_verdict _ _ _ _ _ _ _ _ t c.answer.ensures.answers

pub returns-clause-load_counted : goal.returns-clause-load_counted
returns-clause-load_counted g c = λ three. tells_unread _ _ _ _ _ _ _ _ c.answer.ensures.answers three

pub returns-clause-load_fault : goal.returns-clause-load_fault
returns-clause-load_fault g c = λ three t. tells_load_fault _ _ _ _ _ _ _ _ t c.answer.ensures.answers three

pub returns-clause-write_counted : goal.returns-clause-write_counted
returns-clause-write_counted g c = λ ten. tells_failed _ _ _ _ _ _ _ _ c.answer.ensures.answers ten

pub returns-clause-write_fault : goal.returns-clause-write_fault
returns-clause-write_fault g c = λ ten t. tells_write_fault _ _ _ _ _ _ _ _ t c.answer.ensures.answers ten

pub returns-clause-memory : goal.returns-clause-memory
returns-clause-memory g c = λ one t. tells_memory _ _ _ _ _ _ _ _ t c.answer.ensures.answers one

pub returns-clause-complete : goal.returns-clause-complete
returns-clause-complete g c = λ t none steady. is_complete _ _ _ _ _ _ _ _ t none steady c.answer.ensures.answers
