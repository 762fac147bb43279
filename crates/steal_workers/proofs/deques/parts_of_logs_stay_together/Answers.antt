use Rattle.steal_workers.proofs.deques.parts_of_logs_stay_together.Goals as goal

pub returns-clause-all : goal.returns-clause-all
returns-clause-all c = λ items logs kept. kept.parts

pub returns-clause-idle : goal.returns-clause-idle
returns-clause-idle c = λ items logs kept. kept.idle
