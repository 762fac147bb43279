-- What is gathered, as it is written.
use Rattle.std.proofs.Common.{◌≡◌, ℕ, ℤ, List, ◌++◌, Option, Some, None, refl, sym, ap, ◌∙◌}
use Rattle.std.{specs.Prelude.option_map, specs.List.AllByRecursion, specs.Option.{option_to_list, ForSome}}
use Rattle.key_lists.proofs.Every.{every-append}
use Rattle.tick_model.{specs.declared.feed.Block.Block, specs.declared.plan.Kind.Kind}
use Rattle.feed_reader.{specs.declared.entries.FeedEntry.FeedEntry as Told, specs.declared.gathered.FeedBuilder.FeedBuilder as Read, specs.declared.raw.RawBlock.RawBlock, specs.Gathered.{Gathered, raw_steps, kinds_of_block, with_entry, gathered}, specs.Raw.{kinds_at, raw_block}, specs.Said.said}
use Rattle.feed_reader.specs.declared.entries.FeedEntry.TheVariants as told

-- the block at hand is ended
pub all_ended : {X : Type 0} (P : X → Type 0) (xs : List X) (last : Option X) → AllByRecursion P xs → ForSome last P → AllByRecursion P (xs ++ option_to_list last)
all_ended {X} P xs last all here = every-append P xs (option_to_list last) all (of last here)
  where
    of : (last : Option X) → ForSome last P → AllByRecursion P (option_to_list last)
    of None here = tt
    of (Some x) here = (here x refl, tt)

-- a record of a part goes to the block at hand
part_gathered : (so_far : Gathered) (number : ℕ) (texts : List (List ℕ)) (kinds : List Kind) (cells : List ℤ) (entry : Told) → ((table : ℕ) → entry ≡ told.Block table → ⊥) → (entry ≡ told.End → ⊥)
    → gathered so_far number (said texts kinds cells entry) ≡ record so_far { block = option_map (with_entry (said texts kinds cells entry)) so_far.block }
part_gathered so_far number texts kinds cells (told.Block table) no_block no_end = absurd (no_block table refl)
part_gathered so_far number texts kinds cells (told.Removed range) no_block no_end = refl
part_gathered so_far number texts kinds cells (told.Shift range) no_block no_end = refl
part_gathered so_far number texts kinds cells (told.Added key) no_block no_end = refl
part_gathered so_far number texts kinds cells (told.Modified key) no_block no_end = refl
part_gathered so_far number texts kinds cells told.End no_block no_end = absurd (no_end refl)

pub part_put : (texts : List (List ℕ)) (kinds : List (List Kind)) (old : Read) (number : ℕ) (cells : List ℤ) (entry : Told) (block new : Block) → ((table : ℕ) → entry ≡ told.Block table → ⊥) → (entry ≡ told.End → ⊥) → old.block ≡ Some block
    → raw_block texts kinds new ≡ with_entry (said texts (kinds_at kinds block.table) cells entry) (raw_block texts kinds block)
    → raw_steps texts kinds (record { batches = old.batches; blocks = old.blocks; block = Some new }) ≡ gathered (raw_steps texts kinds old) number (said texts (kinds_of_block kinds old.block) cells entry)
part_put texts kinds old number cells entry block new no_block no_end here put =
    let so_far = raw_steps texts kinds old in
    let entry_told = said texts (kinds_of_block kinds old.block) cells entry in
    let made : Option RawBlock → Gathered = λ last. record so_far { block = last } in
    ap (λ (b : RawBlock). made (Some b)) (put ∙ ap (λ own. with_entry (said texts own cells entry) (raw_block texts kinds block)) (sym (ap (kinds_of_block kinds) here)))
    ∙ sym (ap (λ last. made (option_map (with_entry entry_told) (option_map (raw_block texts kinds) last))) here)
    ∙ sym (part_gathered so_far number texts (kinds_of_block kinds old.block) cells entry no_block no_end)
