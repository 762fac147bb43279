use Rattle.std.proofs.Common.{sym, ◌∙◌, subst}
use Rattle.std.{specs.List.AllByRecursion, proofs.lemmas.Option.same_Some, proofs.lemmas.Result.on_ok_weaker}
use Rattle.tick_model.specs.declared.feed.Batch.{Batch}
use Rattle.feed_reader.{specs.declared.gathered.FeedBuilder.FeedBuilder as Read, specs.Gathered.{kinds_of_block, IsNumberedEntry}, specs.Raw.IsNumberedBlock, proofs.GatheredLemmas.{all_ended, part_put}}
use Rattle.feed_reader.proofs.gathered.FeedBuilder.put.Goals as goal

pub returns-in_ok-end_block-in-Block-clause-numbered : goal.returns-in_ok-end_block-in-Block-clause-numbered
returns-in_ok-end_block-in-Block-clause-numbered c = λ kinds texts are is.
    let old = c.args.self.now in
    let ended = c.in_ok-end_block-in-Block.ensures in
    record {
      batches = subst (λ (read : Read). AllByRecursion (λ (batch : Batch). AllByRecursion (IsNumberedBlock kinds texts) batch.blocks) read.batches) (sym ended) are.batches;
      blocks = subst (λ (read : Read). AllByRecursion (IsNumberedBlock kinds texts) read.blocks) (sym ended) (all_ended (IsNumberedBlock kinds texts) old.blocks old.block are.blocks are.block);
      block = λ other same. subst (IsNumberedBlock kinds texts) (sym c.begin_block.ensures ∙ same_Some _ _ same) (record { added = tt; modified = tt });
    }

pub returns-in-Some : goal.returns-in-Some
returns-in-Some c =
    let here = c.in-Some.is in
    record {
      numbered = λ kinds texts are is.
          on_ok_weaker c.put_part.result
          (λ own. record { batches = are.batches; blocks = are.blocks; block = λ other same. subst (IsNumberedBlock kinds texts) (same_Some _ _ same) own })
          (c.put_part.ensures.numbered kinds texts (are.block c.in-Some.block here) (subst (λ last. IsNumberedEntry (kinds_of_block kinds last) texts c.args.cells.now c.args.entry) here is));
      put = λ texts kinds.
          on_ok_weaker c.put_part.result
          (part_put texts kinds c.args.self.now c.args.number c.args.cells.now c.args.entry c.in-Some.block c.put_part.new.block c.in_default.not-Block c.in_default.not-End here)
          (c.put_part.ensures.put texts kinds);
    }
