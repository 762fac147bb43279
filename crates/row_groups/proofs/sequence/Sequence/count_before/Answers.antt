use Rattle.std.proofs.Common.{ap, sym, ◌∙◌, length, IsSome}
use Rattle.key_lists.proofs.Parts.{every_got}
use Rattle.row_handles.specs.Entries.{key_with}
use Rattle.row_groups.{specs.Slots.is_before, proofs.Ends.{failed_all, passed_all}}
use Rattle.row_groups.proofs.sequence.Sequence.count_before.Goals as goal

pub returns-then-is_after-clause-before : goal.returns-then-is_after-clause-before
returns-then-is_after-clause-before c =
    let test = is_before c.args.place.now.handles.now c.args.place.now.table.now c.args.place.now.at c.args.place.now.key in
    passed_all test c.args.self.now c.self.inside.len c.in-Some.last (c.self.invariant.counted ∙ ap length c.self.view_is) (sym c.last.ensures ∙ c.in-Some.is) c.requires.parted (sym c.is_after.ensures ∙ c.if-is_after.true)

pub is_after-requires-in-Some-first : goal.is_after-requires-in-Some-first
is_after-requires-in-Some-first c =
    every_got (λ slot. IsSome (key_with slot.handle c.args.place.now.handles.now)) c.args.self.now 0 c.in-Some-first.first (sym c.first.ensures ∙ c.in-Some-first.is) c.requires.known

pub returns-then-not-is_after-clause-others : goal.returns-then-not-is_after-clause-others
returns-then-not-is_after-clause-others c =
    let test = is_before c.args.place.now.handles.now c.args.place.now.table.now c.args.place.now.at c.args.place.now.key in
    failed_all test c.args.self.now c.in-Some-first.first (sym c.first.ensures ∙ c.in-Some-first.is) c.requires.parted (sym c.is_after-in-Some-first.ensures ∙ c.if-not-is_after.true)
