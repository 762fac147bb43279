use Rattle.std.proofs.Common.{◌≡◌, ◌∙◌, ◌^◌, ap, false, length, map, subst, sym}
use Rattle.std.{proofs.lemmas.Bool.eqb-true, proofs.lemmas.List.nil_from_length}
use Rattle.chunk_list.specs.Chunked.{joined}
use Rattle.key_lists.proofs.Every.{every_weaker}
use Rattle.shift_data.{specs.Moves.IsLawful, specs.ShiftLists.IsShiftList}
use Rattle.tick_model.{specs.Rules.is_past, specs.Shifts.moved}
use Rattle.sort_op.{specs.declared.entry.Entry.Entry, specs.Entries.{entries, rekeyed, rising_keys, Order}, proofs.Rekeyed.{all_inside, none_rekeyed, order_rekeyed}}
use Rattle.sort_op.proofs.order.SortOrder.rekey.Goals as goal

pub returns-then-is_empty-clause-chunks : goal.returns-then-is_empty-clause-chunks
returns-then-is_empty-clause-chunks c =
    let none = nil_from_length c.ranges-2.result.now (eqb-true (length c.ranges-2.result.now) 0 (sym c.if-is_empty.ensures)) in
    let same : c.args.self.now.chunks ≡ map (map (rekeyed c.args.shifts.now)) c.args.self.now.chunks = subst (λ shifts. c.args.self.now.chunks ≡ map (map (rekeyed shifts)) c.args.self.now.chunks) (sym none ∙ c.ranges-2.ensures.ranges) (sym (none_rekeyed c.args.self.now.chunks)) in
    let kept : c.self.inside.entries ≡ c.args.self.now.chunks = ap (λ (order : Order). order.chunks) c.self.view_is in
    cc

pub change_all-requires : goal.change_all-requires
change_all-requires c =
    every_weaker (λ (entry : Entry). is_past (2 ^ 62) (moved c.args.shifts.now entry.key) ≡ false) (λ (entry : Entry). IsShiftList c.args.shifts.now × (is_past (2 ^ 62) (moved c.args.shifts.now entry.key) ≡ false)) (joined c.self.inside.entries)
    (λ entry inside. (c.ranges-2.ensures.shift, inside))
    (all_inside c.args.shifts.now (joined c.self.inside.entries) (subst (λ (order : Order). IsLawful c.args.shifts.now (rising_keys (entries order))) (sym c.self.view_is) c.requires))

pub invariant_of-self : goal.invariant_of-self
invariant_of-self c =
    order_rekeyed c.args.shifts.now c.self.inside.by c.self.inside.entries c.change_all.new.self (subst (λ (order : Order). IsLawful c.args.shifts.now (rising_keys (entries order))) (sym c.self.view_is) c.requires) c.change_all.ensures.chunks c.change_all.ensures.sizes c.self.invariant

pub returns-clause-chunks : goal.returns-clause-chunks
returns-clause-chunks c = c.change_all.ensures.chunks ∙ ap (λ (order : Order). map (map (rekeyed c.args.shifts.now)) order.chunks) c.self.view_is

pub returns-clause-order : goal.returns-clause-order
returns-clause-order c =
    order_rekeyed c.args.shifts.now c.self.inside.by c.self.inside.entries c.change_all.new.self (subst (λ (order : Order). IsLawful c.args.shifts.now (rising_keys (entries order))) (sym c.self.view_is) c.requires) c.change_all.ensures.chunks c.change_all.ensures.sizes c.self.invariant
