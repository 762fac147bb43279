use Rattle.std.proofs.Common.{ap, sym, ◌∙◌, subst}
use Rattle.source_changes.{specs.Faults.{IsRuleOf, keys_fault}, specs.Waiting.keys_with, proofs.Faulted.record_small}
use Rattle.source_changes.proofs.taking.check.Goals as goal

pub record_of-requires : goal.record_of-requires
record_of-requires c =
    let ks = keys_with c.args.gathered.now.keys c.args.gathered.now.waiting in
    let found = subst (IsRuleOf (keys_fault ks c.args.next.now)) c.in-Err-Broken.field-0-is c.in-Err-Broken.ensures.cause in
    record_small c.args.block.now c.requires.readable ks c.in-Err-Broken.rule c.requires.below (ap (keys_fault ks) (sym c.requires.update) ∙ found)
