use Rattle.std.proofs.Common.{◌≡◌, ◌∙◌, ap, subst, sym}
use Rattle.std.specs.Prelude.{OnOk}
use Rattle.sort_op.{specs.Ranks.listed, specs.Reading.{carried, coming}, specs.Sorted.entries_of}
use Rattle.sort_op.proofs.operator.bring_on.Goals as goal

pub put_in-requires-clause-carried : goal.put_in-requires-clause-carried
put_in-requires-clause-carried g c = c.in_ok-take_out.ensures.carried ∙ ap (λ by. carried by c.args.input.now) (sym c.take_out.ensures.by)

pub put_in-requires-clause-came : goal.put_in-requires-clause-came
put_in-requires-clause-came g c = c.requires.came ∙ ap (λ by. coming by c.args.input.now) (sym c.take_out.ensures.by)

pub returns-clause-stands : goal.returns-clause-stands
returns-clause-stands g c = subst (λ by. OnOk c.put_in.result (listed c.put_in.new.order ≡ entries_of by c.args.input.now.new.rows)) c.take_out.ensures.by c.put_in.ensures.stands
