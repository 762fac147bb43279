use Rattle.std.proofs.Common.{◌≡◌, ◌+◌, ◌++◌, ℤ, pos, List, w64, sym, ap, ◌∙◌, subst, get_or, map, set, length, take, drop, arith}
use Rattle.std.{specs.List.zip, proofs.lemmas.Int.to_z-of_z, proofs.lemmas.List.{set-get_or, take_all}, proofs.lemmas.Slice.Zip.length-zip}
use Rattle.key_lists.proofs.Every.{map_map}
use Rattle.tick_model.specs.declared.plan.Kind.TheVariants.{Long as LongKind, Text as TextKind}
use Rattle.feed_reader.{specs.Coding.coded_cell, specs.Raw.{raw_cell, IsNumber}, proofs.CodingLemmas.{coded_at, cell_number, code_step, left_step, long_own, number_fits}, proofs.coding.code_row.Goals.{in-Text, in-Long}}
use Rattle.feed_reader.proofs.coding.code_row.Goals as goal

pub rank_cell-requires : goal.rank_cell-requires
rank_cell-requires c =
    let ranks = length c.args.ranks.now in
    let number = cell_number c.args.kinds.now c.args.cells.now c.loop-place.cells c.args.start c.loop-place.place TextKind c.loop-place-test.true c.requires.within c.in-Text.is c.loop-place.invariant.left ranks c.requires.numbers in
    subst (λ n. IsNumber ranks (TextKind, n)) (sym (to_z-of_z w64 _ (number_fits ranks _ (omega arith) number))) number

pub loop-place-preserved : goal.loop-place-preserved
loop-place-preserved c =
    let ranks = length c.args.ranks.now in
    let kinds = c.args.kinds.now in
    let old = c.args.cells.now in
    let cells = c.loop-place.cells in
    let new = c.match-kinds-place.cells in
    let start = c.args.start in
    let place = c.loop-place.place in
    let before = c.loop-place.invariant in
    let within = c.loop-place-test.true in
    let len = c.match-kinds-place.auto.cells ∙ before.len in
    elim c.match-kinds-place.branch [
      | in-Text w ↦
          let here = w.in-Text.is in
          let number = cell_number kinds old cells start place TextKind within c.requires.within here before.left ranks c.requires.numbers in
          let rank = w.rank_cell.result in
          let put : new ≡ set cells (start + place) rank = w.cells-is ∙ ap (λ n. set cells (start + place) n) (to_z-of_z w64 rank (record { sfits = w.rank_cell.type_inv })) in
          record {
            len = len;
            left = left_step kinds old cells start place TextKind within c.requires.within here before.left new rank put;
            coded = λ texts own is.
                code_step kinds old cells start place TextKind within c.requires.within here before.left new rank put (coded_at texts own) before.len
                (w.rank_cell.ensures texts own is ∙ ap (λ n. coded_at texts own (TextKind, n)) (to_z-of_z w64 _ (number_fits ranks _ (omega arith) number))) (before.coded texts own is);
          }
      | in-Long w ↦
          let here = w.in-Long.is in
          let cell = get_or cells (start + place) (pos 0) in
          let put : new ≡ set cells (start + place) cell = w.cells-is ∙ sym (set-get_or cells (start + place) (pos 0)) in
          record {
            len = len;
            left = left_step kinds old cells start place LongKind within c.requires.within here before.left new cell put;
            coded = λ texts own is.
                code_step kinds old cells start place LongKind within c.requires.within here before.left new cell put (coded_at texts own) before.len (long_own texts own cell) (before.coded texts own is);
          }
    ]

pub returns-clause-coded : goal.returns-clause-coded
returns-clause-coded c = λ texts own is.
    let pairs = zip c.args.kinds.now (drop c.args.start c.args.cells.now) in
    let place = c.loop-place.place in
    let all : length c.args.kinds.now ≡ place = omega (arith, c.loop-place-test.false, c.loop-place.auto.place-end) in
    ap (λ n. take (c.args.start + n) c.loop-place.cells) all
    ∙ c.loop-place.invariant.coded texts own is
    ∙ ap (λ row. take c.args.start c.args.cells.now ++ map (coded_at texts own) row) (take_all place pairs (omega (arith, length-zip c.args.kinds.now (drop c.args.start c.args.cells.now), all)))
    ∙ ap (λ row. take c.args.start c.args.cells.now ++ row) (sym (map_map (coded_cell texts) (raw_cell own) pairs))
