use Rattle.std.proofs.Common.{ap, sym, ◌∙◌, ◌∷◌, ◌++◌, List, ℕ, arith, length, ◌-◌}
use Rattle.tick_model.specs.Texts.{records_text}
use Rattle.run_output.proofs.Behind.{further, part_ahead, parts_done, some_part, split_front, split_rest}
use Rattle.run_output.proofs.split.split_entry.Goals as goal

pub loop-rest-preserved : goal.loop-rest-preserved
loop-rest-preserved c =
    let rest = c.loop-rest.rest.now in
    let here = sym c.begins_part.ensures ∙ c.loop-rest-test.true in
    let next = c.after_record-rest-in-loop-rest.ensures in record {
      front = further c.loop-rest.invariant.front.0 next.behind.0 c.args.bytes.now rest c.after_record-rest-in-loop-rest.result.now c.loop-rest.invariant.front.1 next.behind.1;
      shorter = omega (arith, next.shorter (some_part rest here), c.loop-rest.invariant.shorter);
      told = λ first others parts behind are ends e.
          let left = c.loop-rest.invariant.told first others parts behind are ends e in
          let ahead = part_ahead left.0 behind rest left.1 ends left.2 here in
          (ahead.2, ahead.3, next.told ahead.0 ahead.1 (records_text ahead.2 ++ behind) ahead.4);
    }

pub returns-clause-told : goal.returns-clause-told
returns-clause-told c first others parts behind are ends e =
    let left = c.loop-rest.invariant.told first others parts behind are ends e in
    let bytes = c.args.bytes.now in
    let rest = parts_done left.0 behind c.loop-rest.rest.now left.1 left.2 (sym c.begins_part.ensures ∙ c.loop-rest-test.false) in
    let own = records_text ((first ∷ others) ∷ parts) in
    let count = ap (λ (some : List ℕ). length bytes - length some) rest in (
      c.split_at.ensures.front ∙ split_front own behind bytes (length bytes - length c.loop-rest.rest.now) e count,
      c.split_at.ensures.back ∙ split_rest own behind bytes (length bytes - length c.loop-rest.rest.now) e count,
    )
