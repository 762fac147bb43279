use Rattle.std.proofs.Common.{◌+◌, ◌<◌, ◌≤◌, ap, sym, subst, take, drop, length, arith}
use Rattle.std.specs.List.{AllByRecursion}
use Rattle.row_handles.{specs.Blocks.rows, proofs.Moving.{below_next, drop_later}}
use Rattle.row_handles.proofs.index.HandleIndex.add.Goals as goal

pub insert_row-requires-clause-below : goal.insert_row-requires-clause-below
insert_row-requires-clause-below c =
    let blocks = c.args.self.now.blocks.items in
    let within : c.begun_by.result ≤ length blocks = omega (arith, c.begun_by.ensures.within, ap length c.deref.ensures.value) in
    let begun = subst (λ bs. AllByRecursion (λ block. block.first ≤ c.args.key) (take c.begun_by.result bs)) c.deref.ensures.value c.begun_by.ensures.begun in
    subst (λ n. AllByRecursion (λ entry. entry.key < c.args.key) (rows (take n blocks))) (sym c.saturating_sub-index.ensures) (below_next c.args.key blocks c.begun_by.result within c.requires.sound.sound c.requires.sound.ascend begun)

pub insert_row-requires-clause-above : goal.insert_row-requires-clause-above
insert_row-requires-clause-above c =
    let blocks = c.args.self.now.blocks.items in
    let above = subst (λ bs. AllByRecursion (λ block. c.args.key < block.first) (drop c.begun_by.result bs)) c.deref.ensures.value c.begun_by.ensures.others in
    let le : c.begun_by.result ≤ c.saturating_sub-index.result + 1 = omega (arith, c.saturating_sub-index.ensures) in
    drop_later (λ block. c.args.key < block.first) c.begun_by.result (c.saturating_sub-index.result + 1) blocks le above
