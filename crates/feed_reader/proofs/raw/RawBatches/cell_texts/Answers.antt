use Rattle.std.proofs.Common.{List, ℕ, sym, subst}
use Rattle.std.specs.Prelude.{flat_map}
use Rattle.feed_reader.{specs.declared.raw.RawBatch.RawBatch, specs.Raw.{batch_texts, AreTold}, proofs.RawLemmas.batches_told}
use Rattle.feed_reader.proofs.raw.RawBatches.cell_texts.Goals as goal

pub returns-clause-told : goal.returns-clause-told
returns-clause-told c =
    subst (λ (texts : List (List ℕ)). AreTold texts (flat_map batch_texts c.args.self.now)) (sym c.as_slice.ensures)
    (subst (λ (batches : List RawBatch). AreTold c.self.inside.texts (flat_map batch_texts batches)) c.self.view_is c.self.invariant.told)

pub returns-clause-all : goal.returns-clause-all
returns-clause-all c =
    subst (λ (texts : List (List ℕ)). AreTold (flat_map batch_texts c.args.self.now) texts) (sym c.as_slice.ensures)
    (subst (λ (batches : List RawBatch). AreTold (flat_map batch_texts batches) c.self.inside.texts) c.self.view_is
    (batches_told c.self.inside.texts c.self.inside.kinds c.self.inside.batches c.self.invariant.blocks_are))
