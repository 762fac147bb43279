use Rattle.std.proofs.Common.{◌≡◌, arith, false, subst, sym, take_all, true}
use Rattle.std.specs.List.{AllByRecursion}
use Rattle.key_lists.proofs.Parts.{none_left}
use Rattle.sort_op.{specs.Entries.comes_before, specs.Ranks.{arrived, listed}}
use Rattle.sort_op.proofs.row_order.RowOrder.position_for.Goals as goal

pub returns-then-is_last-clause-before : goal.returns-then-is_last-clause-before
returns-then-is_last-clause-before c =
    let entries = listed c.args.self.now in
    subst (AllByRecursion (λ entry. comes_before c.args.self.now.by entry (arrived c.args.self.now c.args.row) ≡ true)) (sym (take_all c.len.result entries (omega (arith, c.len.ensures.count)))) (c.requires c.if-is_last.true)

pub returns-then-is_last-clause-others : goal.returns-then-is_last-clause-others
returns-then-is_last-clause-others c = none_left (λ entry. comes_before c.args.self.now.by entry (arrived c.args.self.now c.args.row) ≡ false) (listed c.args.self.now) c.len.result (omega (arith, c.len.ensures.count))
