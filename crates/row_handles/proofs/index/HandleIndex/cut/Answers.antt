use Rattle.std.proofs.Common.{◌-◌, ◌<◌, ◌≤◌, ap, sym, subst, take, drop, length, take_all, arith}
use Rattle.std.{specs.List.AllByRecursion, proofs.lemmas.Result.on_ok_weaker}
use Rattle.row_handles.{specs.Moves.IsCut, proofs.Listings.own_ascend, proofs.Cutting.{found_made, found_first, found_past, found_cut, cut_none, beside_above}, proofs.index.HandleIndex.cut.Goals.{then-from-eq0-via-then-from-eq0, then-from-eq0-via-else-from-eq0+then-from-len}}
use Rattle.row_handles.proofs.index.HandleIndex.cut.Goals as goal

pub returns-then-next-eq0-clause-ok : goal.returns-then-next-eq0-clause-ok
returns-then-next-eq0-clause-ok c =
    cut_none c.args.key c.args.self.now.blocks.items
    (beside_above c.args.key c.args.self.now.blocks.items (subst (λ bs. AllByRecursion (λ other. c.args.key < other.first) bs) c.deref.ensures.value (subst (λ n. AllByRecursion (λ other. c.args.key < other.first) (drop n c.deref.result.now)) c.if-next-eq0.true c.begun_by-next.ensures.others)))

pub rows_below-from-requires : goal.rows_below-from-requires
rows_below-from-requires c =
    let lt : c.begun_by-next.result - 1 < length c.args.self.now.blocks.items = omega (arith, c.if-next-eq0.false, c.begun_by-next.ensures.within, ap length c.deref.ensures.value) in
    own_ascend c.args.self.now.blocks.items (c.begun_by-next.result - 1) c.index-block.result.now lt c.index-block.ensures c.requires.ascend

pub returns-then-from-eq0-clause-ok : goal.returns-then-from-eq0-clause-ok
returns-then-from-eq0-clause-ok c =
    let blocks = c.args.self.now.blocks.items in
    let next = c.begun_by-next.result in
    let from = c.rows_below-from.result in
    let block = c.index-block.result.now in
    let within : next ≤ length blocks = omega (arith, c.begun_by-next.ensures.within, ap length c.deref.ensures.value) in
    let found =
    found_made c.args.key blocks next from block c.if-next-eq0.false within c.index-block.ensures c.requires.sound c.requires.ascend
    (subst (λ bs. AllByRecursion (λ other. other.first ≤ c.args.key) (take next bs)) c.deref.ensures.value c.begun_by-next.ensures.begun)
    (subst (λ bs. AllByRecursion (λ other. c.args.key < other.first) (drop next bs)) c.deref.ensures.value c.begun_by-next.ensures.others)
    c.rows_below-from.ensures.below c.rows_below-from.ensures.others
    in
    elim c.then-from-eq0.branch [
      | then-from-eq0-via-then-from-eq0 w ↦ subst (λ s. IsCut c.args.key blocks s.blocks.items) (sym w.self-is) (found_first c.args.key blocks (next - 1) from block found w.if-from-eq0.true)
      | then-from-eq0-via-else-from-eq0+then-from-len w ↦
          let end : length block.rows.items ≤ from = omega (arith, w.if-from-len.true, w.len.ensures) in
          subst (λ s. IsCut c.args.key blocks s.blocks.items) (sym w.self-is) (found_past c.args.key blocks (next - 1) from block found (take_all from block.rows.items end))
    ]

pub returns-clause-ok : goal.returns-clause-ok
returns-clause-ok c =
    let blocks = c.args.self.now.blocks.items in
    let next = c.begun_by-next.result in
    let from = c.rows_below-from.result in
    let block = c.index-block.result.now in
    let within : next ≤ length blocks = omega (arith, c.begun_by-next.ensures.within, ap length c.deref.ensures.value) in
    let found =
    found_made c.args.key blocks next from block c.if-next-eq0.false within c.index-block.ensures c.requires.sound c.requires.ascend
    (subst (λ bs. AllByRecursion (λ other. other.first ≤ c.args.key) (take next bs)) c.deref.ensures.value c.begun_by-next.ensures.begun)
    (subst (λ bs. AllByRecursion (λ other. c.args.key < other.first) (drop next bs)) c.deref.ensures.value c.begun_by-next.ensures.others)
    c.rows_below-from.ensures.below c.rows_below-from.ensures.others
    in
    on_ok_weaker c.split.result (λ parts. found_cut c.args.key blocks (next - 1) from block found c.split.new.self.blocks.items (parts block c.index-block.ensures)) c.split.ensures.ok
