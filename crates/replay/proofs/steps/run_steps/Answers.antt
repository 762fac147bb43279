use Rattle.std.proofs.Common.{◌≡◌, ◌≤◌, ◌∙◌, ap, sym, subst, arith, length, Some}
use Rattle.tick_laws.specs.Reached.{IsReached}
use Rattle.replay.{specs.Outcomes.IsEnd, specs.ToCome.text_from, proofs.Exits.{all_written, none_written}, proofs.Spoils.{good_before_next, last_at_end}}
use Rattle.replay.proofs.steps.run_steps.Goals as goal

-- the hands could not be made
pub returns-in-Err-clause-ran : goal.returns-in-Err-clause-ran
returns-in-Err-clause-ran g c = record {
  end = λ told. absurd told;
  last_is = λ told. absurd told;
  whole = λ told. absurd told;
  prefix = none_written (g.S.Sink.bytes c.args.out.now) (text_from c.args.run.now 1);
  failed = λ is. absurd (cc);
  never_falls = omega arith;
  steady = λ told. absurd told;
}

pub returns-in-Ok-done-clause-ran : goal.returns-in-Ok-done-clause-ran
returns-in-Ok-done-clause-ran g c =
    let run = c.args.run.now in
    let made = c.in-Ok-bring_to_end.ensures in
    record {
      end = λ told. c.in-Ok-done.ensures;
      last_is = λ told. record {
        good_is = last_at_end run (good_before_next run (length run.batches) made.stands.good) ∙ ap Some (sym made.writer);
        reached = subst (IsReached run) (sym made.writer) made.stands.good.reached;
      };
      whole = λ told. made.whole;
      prefix = all_written _ _ _ made.whole;
      failed = λ is. absurd (subst (IsEnd run) is c.in-Ok-done.ensures);
      never_falls = made.never_falls;
      steady = λ told. made.steady;
    }

pub returns-clause-ran : goal.returns-clause-ran
returns-clause-ran g c =
    let made = c.in-Ok-bring_to_end.ensures in
    record {
      end = λ told. absurd told;
      last_is = λ told. absurd told;
      whole = λ told. absurd told;
      prefix = all_written _ _ _ made.whole;
      failed = λ is. absurd (cc);
      never_falls = made.never_falls;
      steady = λ told. absurd told;
    }
