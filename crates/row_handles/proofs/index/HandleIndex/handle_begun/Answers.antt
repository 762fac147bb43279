use Rattle.std.proofs.Common.{◌-◌, ◌<◌, sym, ◌∙◌, subst, length, drop, arith}
use Rattle.std.specs.List.{AllByRecursion}
use Rattle.row_handles.proofs.Listings.{found_nowhere, found_at, own_ascend}
use Rattle.row_handles.proofs.index.HandleIndex.handle_begun.Goals as goal

pub returns-then-next-eq0 : goal.returns-then-next-eq0
returns-then-next-eq0 c =
    sym (found_nowhere c.args.key c.args.self.now.blocks.items c.requires.sound.sound c.requires.sound.ascend
    (subst (λ n. AllByRecursion (λ other. c.args.key < other.first) (drop n c.args.self.now.blocks.items)) c.if-next-eq0.true c.requires.others))

pub handle_at-requires : goal.handle_at-requires
handle_at-requires c =
    let lt : c.args.next - 1 < length c.args.self.now.blocks.items = omega (arith, c.if-next-eq0.false, c.requires.within) in
    own_ascend c.args.self.now.blocks.items (c.args.next - 1) c.index-block.result.now lt c.index-block.ensures c.requires.sound.ascend

pub returns : goal.returns
returns c =
    c.handle_at.ensures
    ∙ sym (found_at c.args.key c.args.self.now.blocks.items c.args.next c.index-block.result.now c.if-next-eq0.false c.requires.within c.index-block.ensures c.requires.sound.sound c.requires.sound.ascend c.requires.begun c.requires.others)
