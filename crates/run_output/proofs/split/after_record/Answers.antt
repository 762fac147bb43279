use Rattle.std.proofs.Common.{ap, sym, ◌∙◌, arith, length, false}
use Rattle.run_output.proofs.Behind.{at_end, behind, behind_record, ended, kept, longer, turned}
use Rattle.run_output.proofs.split.after_record.Goals as goal

pub loop-byte-preserved-then-byte-eq34 : goal.loop-byte-preserved-then-byte-eq34
loop-byte-preserved-then-byte-eq34 c =
    let byte = c.in-Some.byte.now in
    let rest = c.loop-byte.rest.now in
    let others = c.in-Some.others.now in
    let seam = c.in-Some.ensures.cases.0 in record {
      front = longer c.loop-byte.invariant.front.0 c.args.bytes.now rest others byte c.loop-byte.invariant.front.1 seam;
      shorter = omega (arith, ap length seam, c.loop-byte.invariant.shorter);
      same = sym (turned c.loop-byte.is_quoted byte rest others seam c.if-byte-eq34.true) ∙ c.loop-byte.invariant.same;
    }

pub loop-byte-preserved : goal.loop-byte-preserved
loop-byte-preserved c =
    let byte = c.in-Some.byte.now in
    let rest = c.loop-byte.rest.now in
    let others = c.in-Some.others.now in
    let seam = c.in-Some.ensures.cases.0 in record {
      front = longer c.loop-byte.invariant.front.0 c.args.bytes.now rest others byte c.loop-byte.invariant.front.1 seam;
      shorter = omega (arith, ap length seam, c.loop-byte.invariant.shorter);
      same = sym (kept c.loop-byte.is_quoted byte rest others seam c.if-byte-eq34.false (sym c.ends_record.ensures ∙ c.if-ends_record.false)) ∙ c.loop-byte.invariant.same;
    }

pub returns-then-ends_record-clause-behind : goal.returns-then-ends_record-clause-behind
returns-then-ends_record-clause-behind c =
    longer c.loop-byte.invariant.front.0 c.args.bytes.now c.loop-byte.rest.now c.in-Some.others.now c.in-Some.byte.now c.loop-byte.invariant.front.1 c.in-Some.ensures.cases.0

pub returns-then-ends_record-clause-told : goal.returns-then-ends_record-clause-told
returns-then-ends_record-clause-told c first others rest e =
    sym (ended c.loop-byte.is_quoted c.in-Some.byte.now c.loop-byte.rest.now c.in-Some.others.now c.in-Some.ensures.cases.0 c.if-byte-eq34.false (sym c.ends_record.ensures ∙ c.if-ends_record.true))
    ∙ c.loop-byte.invariant.same
    ∙ ap (behind false) e
    ∙ behind_record first others rest

pub returns-clause-told : goal.returns-clause-told
returns-clause-told c first others rest e =
    sym (at_end c.loop-byte.is_quoted c.loop-byte.rest.now c.in_default.ensures.cases) ∙ c.loop-byte.invariant.same ∙ ap (behind false) e ∙ behind_record first others rest
