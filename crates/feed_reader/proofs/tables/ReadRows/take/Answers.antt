use Rattle.std.proofs.Common.{◌≡◌, ◌++◌, ◌∷◌, [], Bool, true, ℕ, length, sym, ap, ◌∙◌, subst, arith, rules}
use Rattle.std.proofs.lemmas.Bool.{eq-eqb}
use Rattle.feed_reader.{specs.declared.tables.ReadRows.ReadRows, specs.Cells.cells_of, specs.ReadCells.AreRead, specs.Records.at_hand, proofs.TableLemmas.taken}
use Rattle.feed_reader.proofs.tables.ReadRows.take.Goals as goal

pub returns : goal.returns
returns c =
    let columns = c.args.columns.now in
    let old = c.args.self.now in
    let new : ReadRows = record { keys = c.push.new.self; read = c.read.new.self } in
    let fields = at_hand c.args.fields.now in
    let key : c.len-key.result ≡ length old.keys.items = omega (arith, c.len-key.ensures, old.keys.ok.0) in
    let all : c.in_ok-read.field-0 ≡ true = search rules in
    let both =
    taken columns old new c.requires.rows (c.in_ok-push.ensures.items ∙ ap (λ (k : ℕ). old.keys.items ++ k ∷ []) key) fields c.requires.text
    (eq-eqb (length fields) (length columns) (sym c.len.ensures ∙ c.if-len-columns.false))
    (subst (λ (b : Bool). AreRead columns old.read new.read b (cells_of columns fields)) all c.in_ok-read.ensures) (omega (arith, key, c.from.ensures, c.if-key-from.false)) in
    record { rows = both.0; told = both.1 }
