use Rattle.std.proofs.Common.{◌+◌, ◌++◌, ◌∷◌, [], ℤ, List, ℕ, Option, Vec, Global, SFits, w64, get_or, ap, ◌∙◌, subst, arith, rules}
use Rattle.std.proofs.lemmas.Int.{to_z-of_z}
use Rattle.feed_reader.{specs.Cells.IsCellOf, specs.Records.at_hand, proofs.CellLemmas.{none_so_far, more_so_far, stopped, all_read}}
use Rattle.feed_reader.proofs.cells.ReadCells.read.Goals as goal

pub loop-place-init : goal.loop-place-init
loop-place-init c = none_so_far c.args.columns.now (at_hand c.args.fields.now) c.args.first c.args.self.now

pub loop-place-preserved : goal.loop-place-preserved
loop-place-preserved c =
    let fields = at_hand c.args.fields.now in
    let column = c.index-columns-place.result in
    let old = c.loop-place.self in
    let n = c.in-Some.cell in
    let fits : SFits w64 n = search rules in
    let P : List ℕ → Option ℤ → Type 0 = λ field cell. IsCellOf column.kind field old.texts c.cell.new.self.texts cell in
    let told = subst (P (get_or fields (c.args.first + c.loop-place.place) [])) c.in-Some.is (subst (λ (field : List ℕ). P field c.in_ok-cell.field-0) c.field.ensures c.in_ok-cell.ensures.cell) in
    more_so_far c.args.columns.now fields c.args.first c.loop-place.place c.args.self.now old c.requires.whole column (record { texts = c.cell.new.self.texts; cells = c.push.new.self }) n
    (omega arith) c.index-columns-place.is c.loop-place.invariant told
    (c.in_ok-push-in-Some.ensures.items
    ∙ ap (λ (cell : ℤ). c.cell.new.self.cells.items ++ cell ∷ []) (to_z-of_z w64 n fits)
    ∙ ap (λ (cells : Vec ℤ Global). cells.items ++ n ∷ []) c.in_ok-cell.ensures.others)

pub returns-in-None : goal.returns-in-None
returns-in-None c =
    let fields = at_hand c.args.fields.now in
    let column = c.index-columns-place.result in
    let old = c.loop-place.self in
    let P : List ℕ → Option ℤ → Type 0 = λ field cell. IsCellOf column.kind field old.texts c.cell.new.self.texts cell in
    let told = subst (P (get_or fields (c.args.first + c.loop-place.place) [])) c.in-None.is (subst (λ (field : List ℕ). P field c.in_ok-cell.field-0) c.field.ensures c.in_ok-cell.ensures.cell) in
    stopped c.args.columns.now fields c.args.first c.loop-place.place c.args.self.now old c.requires.whole column c.cell.new.self (omega arith) c.index-columns-place.is told

pub returns : goal.returns
returns c = all_read c.args.columns.now (at_hand c.args.fields.now) c.args.first c.loop-place.place c.args.self.now c.loop-place.self c.requires.whole (omega arith) c.loop-place.invariant
