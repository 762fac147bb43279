use Rattle.std.proofs.Common.{List, ℕ, sym, subst}
use Rattle.feed_reader.{specs.declared.raw.RawRow.RawRow, specs.Raw.{rows_texts, AreTold}, proofs.RawLemmas.rows_told}
use Rattle.feed_reader.proofs.raw.RawRows.cell_texts.Goals as goal

pub returns-clause-told : goal.returns-clause-told
returns-clause-told c =
    subst (λ (texts : List (List ℕ)). AreTold texts (rows_texts c.args.self.now)) (sym c.as_slice.ensures)
    (subst (λ (rows : List RawRow). AreTold c.self.inside.texts (rows_texts rows)) c.self.view_is c.self.invariant.told)

pub returns-clause-all : goal.returns-clause-all
returns-clause-all c =
    subst (λ (texts : List (List ℕ)). AreTold (rows_texts c.args.self.now) texts) (sym c.as_slice.ensures)
    (subst (λ (rows : List RawRow). AreTold (rows_texts rows) c.self.inside.texts) c.self.view_is (rows_told c.self.inside.texts c.self.inside.kinds c.self.inside.rows c.self.invariant.rows_are))
