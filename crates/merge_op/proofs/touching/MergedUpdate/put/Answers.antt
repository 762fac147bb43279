use Rattle.std.proofs.Common.{◌≡◌, true, ap, sym, ◌∙◌, subst, ℕ, ◌+◌, ◌<◌, ◌^◌, List}
use Rattle.std.{specs.Prelude.OnOk, specs.List.AllByRecursion}
use Rattle.tick_model.{specs.declared.update.ShiftRange.ShiftRange, specs.Tables.keys}
use Rattle.merge_op.{specs.declared.starts.Start.Start, proofs.Going.{added_there, before_there, now_there, removed_there, small_part}, proofs.Paired.{modified_before, modified_now}}
use Rattle.tick_table.proofs.ExactAgain.{exact_lawful}
use Rattle.merge_op.proofs.touching.MergedUpdate.put.Goals as goal

pub put_keys-requires-clause-small : goal.put_keys-requires-clause-small
put_keys-requires-clause-small c = rw (c.removed.ensures.keys, c.update-update.ensures) (small_part c.args.start.before (keys c.args.input.now.old.rows) c.args.input.now.update.removed c.requires.small_before (removed_there c.args.input.now c.requires.exact))

pub put_keys-requires-2-clause-small : goal.put_keys-requires-2-clause-small
put_keys-requires-2-clause-small c = rw (c.added.ensures.keys, c.update-update.ensures) (small_part c.args.start.now (keys c.args.input.now.new.rows) c.args.input.now.update.added c.requires.small_now (added_there c.args.input.now c.requires.exact))

pub modified_before-requires : goal.modified_before-requires
modified_before-requires c = rw (c.prev_rows.ensures.keys, c.update-update.ensures) (exact_lawful c.args.input.now c.requires.exact)

pub put_keys-requires-3-clause-small : goal.put_keys-requires-3-clause-small
put_keys-requires-3-clause-small c =
    rw (c.in_ok-modified_before.ensures, c.prev_rows.ensures.keys, c.update-update.ensures)
    (small_part c.args.start.before (keys c.args.input.now.old.rows) (modified_before c.args.input.now) c.requires.small_before (before_there c.args.input.now c.requires.exact))

pub put_keys-requires-4-clause-small : goal.put_keys-requires-4-clause-small
put_keys-requires-4-clause-small c = rw (c.modified.ensures.keys, c.update-update.ensures) (small_part c.args.start.now (keys c.args.input.now.new.rows) c.args.input.now.update.modified c.requires.small_now (now_there c.args.input.now c.requires.exact))

pub returns-clause-shift : goal.returns-clause-shift
returns-clause-shift c = subst (λ end. OnOk c.put_shift.result (AllByRecursion (λ (range : ShiftRange). range.end < end) c.put_shift.new.shift)) (ap (λ (start : Start). start.before) c.behind-end.ensures) c.put_shift.ensures.before
