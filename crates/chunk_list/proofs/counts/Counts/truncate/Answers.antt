use Rattle.std.proofs.Common.{◌-◌, ◌<◌, ap, arith, length, sym, take, take_all, ◌∙◌}
use Rattle.std.proofs.lemmas.List.Edits.{length-remove}
use Rattle.chunk_list.proofs.Extended.{last_gone}
use Rattle.chunk_list.proofs.counts.Counts.truncate.Goals as goal

pub loop-end-preserved : goal.loop-end-preserved
loop-end-preserved c =
    let now = c.loop-end.self in
    let i = c.loop-end.end - 1 in
    let lt : i < length now = omega (arith, c.loop-end-test.true, c.loop-end.invariant.end_is) in record {
      end_is = omega (arith, ap length c.remove.ensures, length-remove now i lt, c.loop-end.invariant.end_is, c.loop-end-test.true);
      first = ap (take c.args.count) c.remove.ensures ∙ last_gone now c.args.self.now c.args.count i (omega (arith, c.loop-end-test.true)) c.loop-end.invariant.first;
    }

pub returns : goal.returns
returns c =
    sym (take_all c.args.count c.loop-end.self (omega (arith, c.loop-end-test.false, c.loop-end.invariant.end_is))) ∙ c.loop-end.invariant.first
