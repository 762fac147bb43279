use Rattle.std.proofs.Common.{◌≡◌, ℕ, zero, suc, ◌-◌, ◌<◌, ◌≤◌, arith, subst, List, length, take, get_or}
use Rattle.std.specs.List.{AllByRecursion}
use Rattle.row_handles.{specs.declared.block.RowBlock.RowBlock, specs.Entries.Ascend, specs.Blocks.{IsBlock, rows}, proofs.Listings.{begun_to, others_from}}
use Rattle.row_handles.proofs.index.begun_near.Goals as goal

-- the blocks before a place, where the last of them begins at the key or before it
begun_before : (key near last : ℕ) (blocks : List RowBlock) (d : RowBlock) → last ≡ near - 1 → AllByRecursion IsBlock blocks → Ascend (rows blocks) → last < length blocks → (get_or blocks last d).first ≤ key → AllByRecursion (λ block. block.first ≤ key) (take near blocks)
begun_before key zero last blocks d is sound ascend lt le = tt
begun_before key (suc i) last blocks d is sound ascend lt le =
    let same : last ≡ i = omega (arith, is) in
    begun_to key blocks i d sound ascend (omega (arith, lt, same)) (subst (λ n. (get_or blocks n d).first ≤ key) same le)

pub returns-in-Some-Some-clause-begun : goal.returns-in-Some-Some-clause-begun
returns-in-Some-Some-clause-begun c =
    let at = c.in-Some-Some.ensures.lookup in
    begun_before c.args.key c.args.near c.saturating_sub.result c.args.blocks.now c.in-Some-Some.last.now (omega (arith, c.saturating_sub.ensures)) c.requires.sound c.requires.ascend at.3.0 (subst (λ (b : RowBlock). b.first ≤ c.args.key) at.1 c.if-last-key.true)

pub returns-in-Some-Some-clause-others : goal.returns-in-Some-Some-clause-others
returns-in-Some-Some-clause-others c =
    let at = c.in-Some-Some.ensures'.lookup in
    others_from c.args.key c.args.blocks.now c.args.near c.in-Some-Some.next.now c.requires.sound c.requires.ascend at.3.0 (subst (λ (b : RowBlock). c.args.key < b.first) at.1 c.if-key-next.true)
