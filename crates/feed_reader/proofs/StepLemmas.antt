-- What is gathered while a feed is read: rows whose texts have numbers, and texts that stand in rows.
use Rattle.std.proofs.Common.{◌≡◌, ℕ, zero, suc, ◌+◌, ◌≤◌, Bool, true, false, List, [], ◌∷◌, ◌++◌, map, length, Option, Some, None, Result, Ok, Err, ℤ, refl, sym, ap, ap₂, ◌∙◌, subst, arith}
use Rattle.std.{specs.Prelude.{◌||◌, flat_map, option_map}, specs.List.{AllByRecursion, list_any}, specs.Option.{option_to_list, ForSome}, specs.Str.bytes_eq, proofs.lemmas.Bool.or_right, proofs.lemmas.List.{append-nil, length-map}, proofs.lemmas.List.Concat.flat_map-append, proofs.lemmas.List.Folds.list_any-append, proofs.lemmas.Option.same_Some}
use Rattle.key_lists.{proofs.Booleans.or_assoc, proofs.Every.{every_weaker, every-append, map_same}}
use Rattle.tick_model.{specs.declared.feed.Batch.Batch as BatchRead, specs.declared.feed.Block.Block as BlockRead, specs.declared.plan.Kind.Kind, specs.declared.plan.Node.Node, specs.declared.plan.Plan.Plan, specs.Plans.columns_at}
use Rattle.feed_reader.{specs.declared.cells.ReadCells.ReadCells, specs.declared.entries.FeedEntry.FeedEntry as Told, specs.declared.fault.TextKind.TextKind, specs.declared.feeds.ReadSteps.ReadSteps, specs.declared.gathered.FeedBuilder.FeedBuilder as Read, specs.declared.place.BlockPart.BlockPart, specs.declared.place.BlockState.BlockState, specs.declared.place.BlockState.TheVariants.{Outside, Inside}, specs.declared.raw.RawBatch.RawBatch, specs.declared.raw.RawBlock.RawBlock, specs.declared.raw.RawRow.RawRow, specs.Cells.kinds_in, specs.Entries.entry_of, specs.Gathered.{Gathered, raw_steps, ended_blocks, with_entry, begun, gathered, kinds_of_block, AreNumberedSteps, FitsRow, IsNumberedEntry}, specs.Places.{opened, passed, place_after, is_outside}, specs.ReadSteps.{kinds_by_node, steps_of, steps_texts, IsAt, AreReadSteps, IsStep}, specs.Raw.{row_texts, rows_texts, block_texts, batch_texts, raw_row, raw_block, raw_batch, kinds_at, AreTold, Grows, IsNumberedRow, IsNumberedBlock, AreNumberedBatches}, specs.Said.{Entry, Block, Removed, Shift, Added, Modified, End, said, kinds_within, IsReadEntry}, proofs.FeedLemmas.{left_to_read, one_more, refused, few_steps}, proofs.Orderly.{fits_at, StandsAt, EntryFits, IsRange, IsMove, IsRawRow}, proofs.RawLemmas.{rows_kept, rows_more, grows_none, grown_longer}}
use Rattle.feed_reader.specs.declared.entries.FeedEntry.TheVariants as told
use Rattle.feed_reader.specs.declared.place.BlockPart.TheVariants as Parts

part_at : (place : BlockState) (so_far : Gathered) (entry : Entry) (part : BlockPart) (last : ℕ) → ((block : RawBlock) → (with_entry entry block).table ≡ block.table) → IsAt place so_far → IsAt (passed place part last) (record so_far { block = option_map (with_entry entry) so_far.block })
part_at Outside so_far entry part last same at = (at.0, ap (option_map (with_entry entry)) at.1)
part_at (Inside table reached before) so_far entry part last same at = (with_entry entry at.0, ap (option_map (with_entry entry)) at.1, same at.0 ∙ at.2)

pub at_after : (place : BlockState) (so_far : Gathered) (number : ℕ) (entry : Entry) → IsAt place so_far → IsAt (place_after place entry) (gathered so_far number entry)
at_after place so_far number (Block table) at = (begun table number, refl, refl)
at_after place so_far number (Removed range) at = part_at place so_far (Removed range) Parts.Removed range.last (λ block. refl) at
at_after place so_far number (Shift range) at = part_at place so_far (Shift range) Parts.Shifts range.end (λ block. refl) at
at_after place so_far number (Added row) at = part_at place so_far (Added row) Parts.Added row.key (λ block. refl) at
at_after place so_far number (Modified row) at = part_at place so_far (Modified row) Parts.Modified row.key (λ block. refl) at
at_after place so_far number End at = (refl, refl)

-- the texts of what a record says
abbrev pub entry_texts : Entry → List (List ℕ)
entry_texts (Added row) = row_texts row
entry_texts (Modified row) = row_texts row
entry_texts (Block table) = []
entry_texts (Removed range) = []
entry_texts (Shift range) = []
entry_texts End = []

or_false : (a : Bool) → a ≡ (a || false)
or_false true = refl
or_false false = refl

or_swap : (a b c : Bool) → ((a || b) || c) ≡ ((a || c) || b)
or_swap true b c = refl
or_swap false true true = refl
or_swap false true false = refl
or_swap false false true = refl
or_swap false false false = refl

module _ (p : List ℕ → Bool) where
  abbrev has : List (List ℕ) → Bool
  has = list_any p

  row_has : (rows : List RawRow) (row : RawRow) → has (rows_texts (rows ++ row ∷ [])) ≡ (has (rows_texts rows) || has (row_texts row))
  row_has rows row =
      ap has (flat_map-append row_texts rows (row ∷ []) ∙ ap (λ last. rows_texts rows ++ last) (append-nil (row_texts row)))
      ∙ list_any-append p (rows_texts rows) (row_texts row)

  entry_has : (entry : Entry) (block : RawBlock) → has (block_texts (with_entry entry block)) ≡ (has (block_texts block) || has (entry_texts entry))
  entry_has (Block table) block = or_false (has (block_texts block))
  entry_has (Removed range) block = or_false (has (block_texts block))
  entry_has (Shift range) block = or_false (has (block_texts block))
  entry_has End block = or_false (has (block_texts block))
  entry_has (Added row) block =
      list_any-append p (rows_texts (block.added ++ row ∷ [])) (rows_texts block.modified)
      ∙ ap (λ b. b || has (rows_texts block.modified)) (row_has block.added row)
      ∙ or_swap (has (rows_texts block.added)) (has (row_texts row)) (has (rows_texts block.modified))
      ∙ ap (λ b. b || has (row_texts row)) (sym (list_any-append p (rows_texts block.added) (rows_texts block.modified)))
  entry_has (Modified row) block =
      list_any-append p (rows_texts block.added) (rows_texts (block.modified ++ row ∷ []))
      ∙ ap (λ b. has (rows_texts block.added) || b) (row_has block.modified row)
      ∙ or_assoc (has (rows_texts block.added)) (has (rows_texts block.modified)) (has (row_texts row))
      ∙ ap (λ b. b || has (row_texts row)) (sym (list_any-append p (rows_texts block.added) (rows_texts block.modified)))

  -- a step with a last block
  last_has : (front : List (List ℕ)) (blocks : List RawBlock) (block : RawBlock) → has (front ++ flat_map block_texts (blocks ++ block ∷ [])) ≡ (has (front ++ flat_map block_texts blocks) || has (block_texts block))
  last_has front blocks block =
      let before = flat_map block_texts blocks in
      ap (λ own. has (front ++ own)) (flat_map-append block_texts blocks (block ∷ []) ∙ ap (λ last. before ++ last) (append-nil (block_texts block)))
      ∙ list_any-append p front (before ++ block_texts block)
      ∙ ap (λ b. has front || b) (list_any-append p before (block_texts block))
      ∙ or_assoc (has front) (has before) (has (block_texts block))
      ∙ ap (λ b. b || has (block_texts block)) (sym (list_any-append p front before))

  part_has : (so_far : Gathered) (entry : Entry) (block : RawBlock) → so_far.block ≡ Some block → has (steps_texts (record so_far { block = option_map (with_entry entry) so_far.block })) ≡ (has (steps_texts so_far) || has (entry_texts entry))
  part_has so_far entry block here =
      let front = flat_map batch_texts so_far.batches in
      let made : Option RawBlock → Bool = λ last. has (front ++ flat_map block_texts (so_far.blocks ++ option_to_list last)) in
      ap (λ last. made (option_map (with_entry entry) last)) here
      ∙ last_has front so_far.blocks (with_entry entry block)
      ∙ ap (λ b. has (front ++ flat_map block_texts so_far.blocks) || b) (entry_has entry block)
      ∙ or_assoc (has (front ++ flat_map block_texts so_far.blocks)) (has (block_texts block)) (has (entry_texts entry))
      ∙ ap (λ b. b || has (entry_texts entry)) (sym (last_has front so_far.blocks block) ∙ ap made (sym here))

  -- outside a block there is no record of a part
  place_has : (place : BlockState) (so_far : Gathered) (entry : Entry) (part : BlockPart) (key : ℕ) (Fits : ℕ → Type 0) → StandsAt (opened place part) key Fits → IsAt place so_far → has (steps_texts (record so_far { block = option_map (with_entry entry) so_far.block })) ≡ (has (steps_texts so_far) || has (entry_texts entry))
  place_has Outside so_far entry part key Fits stands at = absurd stands
  place_has (Inside table reached last) so_far entry part key Fits stands at = part_has so_far entry at.0 at.1

  block_has : (so_far : Gathered) (table number : ℕ) → has (steps_texts (gathered so_far number (Block table))) ≡ (has (steps_texts so_far) || false)
  block_has so_far table number = last_has (flat_map batch_texts so_far.batches) (ended_blocks so_far) (begun table number)

  end_has : (so_far : Gathered) (number : ℕ) → has (steps_texts (gathered so_far number End)) ≡ (has (steps_texts so_far) || false)
  end_has so_far number =
      let before = flat_map batch_texts so_far.batches in
      let own = flat_map block_texts (ended_blocks so_far) in
      ap has
      (append-nil (flat_map batch_texts (so_far.batches ++ (record { blocks = ended_blocks so_far }) ∷ []))
      ∙ flat_map-append batch_texts so_far.batches ((record { blocks = ended_blocks so_far }) ∷ [])
      ∙ ap (λ last. before ++ last) (append-nil own))
      ∙ or_false (has (before ++ own))

  gathered_has : (plan : Plan) (place : BlockState) (steps : ℕ) (so_far : Gathered) (number : ℕ) (entry : Entry) → EntryFits plan place steps entry → IsAt place so_far → has (steps_texts (gathered so_far number entry)) ≡ (has (steps_texts so_far) || has (entry_texts entry))
  gathered_has plan place steps so_far number (Block table) fits at = block_has so_far table number
  gathered_has plan place steps so_far number (Removed range) fits at = place_has place so_far (Removed range) Parts.Removed range.first (λ _. IsRange range) fits at
  gathered_has plan place steps so_far number (Shift range) fits at = place_has place so_far (Shift range) Parts.Shifts range.begin (λ _. IsMove range) fits at
  gathered_has plan place steps so_far number (Added row) fits at = place_has place so_far (Added row) Parts.Added row.key (λ t. IsRawRow (columns_at plan.nodes t) row) fits at
  gathered_has plan place steps so_far number (Modified row) fits at = place_has place so_far (Modified row) Parts.Modified row.key (λ t. IsRawRow (columns_at plan.nodes t) row) fits at
  gathered_has plan place steps so_far number End fits at = end_has so_far number

-- one more record
told_more : (plan : Plan) (place : BlockState) (steps : ℕ) (so_far : Gathered) (number : ℕ) (entry : Entry) (texts more : List (List ℕ)) → EntryFits plan place steps entry → IsAt place so_far → AreTold texts (steps_texts so_far) → AreTold more (entry_texts entry) → AreTold (texts ++ more) (steps_texts (gathered so_far number entry))
told_more plan place steps so_far number entry texts more fits at before own =
    let Among : List (List ℕ) → List ℕ → Type 0 = λ those text. list_any (bytes_eq text) those ≡ true in
    let all = gathered so_far number entry in
    every-append (Among (steps_texts all)) texts more
    (every_weaker (Among (steps_texts so_far)) (Among (steps_texts all)) texts
    (λ text there. gathered_has (bytes_eq text) plan place steps so_far number entry fits at ∙ ap (λ b. b || list_any (bytes_eq text) (entry_texts entry)) there) before)
    (every_weaker (Among (entry_texts entry)) (Among (steps_texts all)) more
    (λ text there. gathered_has (bytes_eq text) plan place steps so_far number entry fits at ∙ or_right (list_any (bytes_eq text) (steps_texts so_far)) (list_any (bytes_eq text) (entry_texts entry)) there) own)

-- what is gathered tells the same where texts are put behind others
module _ (kinds : List (List Kind)) (texts more : List (List ℕ)) where
  block_kept : (block : BlockRead) → IsNumberedBlock kinds (length texts) block → raw_block (texts ++ more) kinds block ≡ raw_block texts kinds block
  block_kept block is =
      let own = kinds_at kinds block.table in
      let made : List RawRow → List RawRow → RawBlock = λ added modified. record { table = block.table; number = block.number; removed = block.removed; shifts = block.shifts; added = added; modified = modified } in
      ap (λ rows. made rows (map (raw_row (texts ++ more) own) block.modified)) (rows_kept texts more own block.added is.added)
      ∙ ap (made (map (raw_row texts own) block.added)) (rows_kept texts more own block.modified is.modified)

  blocks_kept : (blocks : List BlockRead) → AllByRecursion (IsNumberedBlock kinds (length texts)) blocks → map (raw_block (texts ++ more) kinds) blocks ≡ map (raw_block texts kinds) blocks
  blocks_kept blocks are =
      map_same (raw_block (texts ++ more) kinds) (raw_block texts kinds) blocks
      (every_weaker (IsNumberedBlock kinds (length texts)) (λ block. raw_block (texts ++ more) kinds block ≡ raw_block texts kinds block) blocks block_kept are)

  batches_kept : (batches : List BatchRead) → AllByRecursion (λ batch. AllByRecursion (IsNumberedBlock kinds (length texts)) batch.blocks) batches → map (raw_batch (texts ++ more) kinds) batches ≡ map (raw_batch texts kinds) batches
  batches_kept batches are =
      map_same (raw_batch (texts ++ more) kinds) (raw_batch texts kinds) batches
      (every_weaker (λ (batch : BatchRead). AllByRecursion (IsNumberedBlock kinds (length texts)) batch.blocks) (λ batch. raw_batch (texts ++ more) kinds batch ≡ raw_batch texts kinds batch) batches
      (λ batch own. ap (λ blocks. let it : RawBatch = record { blocks = blocks } in it) (blocks_kept batch.blocks own)) are)

  last_kept : (last : Option BlockRead) → ForSome last (IsNumberedBlock kinds (length texts)) → option_map (raw_block (texts ++ more) kinds) last ≡ option_map (raw_block texts kinds) last
  last_kept None is = refl
  last_kept (Some block) is = ap (λ b. Some b) (block_kept block (is block refl))

  pub steps_kept : (read : Read) → AreNumberedSteps kinds (length texts) read → raw_steps (texts ++ more) kinds read ≡ raw_steps texts kinds read
  steps_kept read are =
      let made : List RawBatch → List RawBlock → Option RawBlock → Gathered = λ batches blocks block. record { batches = batches; blocks = blocks; block = block } in
      ap (λ batches. made batches (map (raw_block (texts ++ more) kinds) read.blocks) (option_map (raw_block (texts ++ more) kinds) read.block)) (batches_kept read.batches are.batches)
      ∙ ap (λ blocks. made (map (raw_batch texts kinds) read.batches) blocks (option_map (raw_block (texts ++ more) kinds) read.block)) (blocks_kept read.blocks are.blocks)
      ∙ ap (made (map (raw_batch texts kinds) read.batches) (map (raw_block texts kinds) read.blocks)) (last_kept read.block are.block)

-- numbers of few texts are numbers of many
module _ (kinds : List (List Kind)) (few many : ℕ) (less : few ≤ many) where
  block_more : (block : BlockRead) → IsNumberedBlock kinds few block → IsNumberedBlock kinds many block
  block_more block is = record {
    added = rows_more few many (kinds_at kinds block.table) block.added less is.added;
    modified = rows_more few many (kinds_at kinds block.table) block.modified less is.modified;
  }

  blocks_more : (blocks : List BlockRead) → AllByRecursion (IsNumberedBlock kinds few) blocks → AllByRecursion (IsNumberedBlock kinds many) blocks
  blocks_more blocks are = every_weaker (IsNumberedBlock kinds few) (IsNumberedBlock kinds many) blocks block_more are

  pub steps_more : (read : Read) → AreNumberedSteps kinds few read → AreNumberedSteps kinds many read
  steps_more read are = record {
    batches = every_weaker (λ (batch : BatchRead). AllByRecursion (IsNumberedBlock kinds few) batch.blocks) (λ batch. AllByRecursion (IsNumberedBlock kinds many) batch.blocks) read.batches (λ batch own. blocks_more batch.blocks own) are.batches;
    blocks = blocks_more read.blocks are.blocks;
    block = λ block here. block_more block (are.block block here);
  }

-- the kinds of the columns of the block at hand
kinds_of_node : (nodes : List Node) (table : ℕ) → kinds_at (map (λ (node : Node). kinds_in node.columns) nodes) table ≡ kinds_in (columns_at nodes table)
kinds_of_node [] table = refl
kinds_of_node (node ∷ nodes) zero = refl
kinds_of_node (node ∷ nodes) (suc table) = kinds_of_node nodes table

kinds_at_hand : (plan : Plan) (place : BlockState) (texts : List (List ℕ)) (batches : List BatchRead) (blocks : List BlockRead) (last : Option BlockRead)
    → IsAt place (raw_steps texts (kinds_by_node plan) (record { batches = batches; blocks = blocks; block = last })) → kinds_of_block (kinds_by_node plan) last ≡ kinds_within plan place
kinds_at_hand plan Outside texts batches blocks None at = refl
kinds_at_hand plan Outside texts batches blocks (Some block) at = let none = at.1 in cc
kinds_at_hand plan (Inside table part before) texts batches blocks None at = let some = at.1 in cc
kinds_at_hand plan (Inside table part before) texts batches blocks (Some block) at =
    let own : block.table ≡ table = ap (λ (b : RawBlock). b.table) (same_Some _ _ at.1) ∙ at.2 in
    ap (kinds_at (kinds_by_node plan)) own ∙ kinds_of_node plan.nodes table

-- a row that is numbered as those of the block at hand are has as many cells
block_fits : (kinds : List (List Kind)) (texts : ℕ) (cells : List ℤ) (entry : Told) (block : BlockRead) → IsNumberedBlock kinds texts block → IsNumberedEntry (kinds_at kinds block.table) texts cells entry → FitsRow entry (length cells) block
block_fits kinds texts cells (told.Added key) block are is = every_weaker (IsNumberedRow (kinds_at kinds block.table) texts) (λ row. length row.cells ≡ length cells) block.added (λ row own. own.whole ∙ sym is.whole) are.added
block_fits kinds texts cells (told.Modified key) block are is = every_weaker (IsNumberedRow (kinds_at kinds block.table) texts) (λ row. length row.cells ≡ length cells) block.modified (λ row own. own.whole ∙ sym is.whole) are.modified
block_fits kinds texts cells (told.Block table) block are is = tt
block_fits kinds texts cells (told.Removed range) block are is = tt
block_fits kinds texts cells (told.Shift range) block are is = tt
block_fits kinds texts cells told.End block are is = tt

entry_numbered : (known : List (List ℕ)) (kinds : List Kind) (read : ReadCells) (entry : Told) → IsReadEntry known kinds read entry → IsNumberedEntry kinds (length read.texts) read.cells.items entry
entry_numbered known kinds read (told.Added key) is = is.numbered
entry_numbered known kinds read (told.Modified key) is = is.numbered
entry_numbered known kinds read (told.Block table) is = tt
entry_numbered known kinds read (told.Removed range) is = tt
entry_numbered known kinds read (told.Shift range) is = tt
entry_numbered known kinds read told.End is = tt

none_more : (known texts : List (List ℕ)) → texts ≡ known → Grows known texts []
none_more known texts same = subst (λ (all : List (List ℕ)). Grows known all []) (sym same) (grows_none known)

entry_grows : (known : List (List ℕ)) (kinds : List Kind) (read : ReadCells) (entry : Told) → IsReadEntry known kinds read entry → Grows known read.texts (entry_texts (said read.texts kinds read.cells.items entry))
entry_grows known kinds read (told.Added key) is = is.grows
entry_grows known kinds read (told.Modified key) is = is.grows
entry_grows known kinds read (told.Block table) is = none_more known read.texts is
entry_grows known kinds read (told.Removed range) is = none_more known read.texts is
entry_grows known kinds read (told.Shift range) is = none_more known read.texts is
entry_grows known kinds read told.End is = none_more known read.texts is

-- what holds between two records
pub at_start : (plan : Plan) (read : ReadCells) (feed : Read) → read.texts ≡ [] → feed ≡ record { batches = []; blocks = []; block = None } → AreReadSteps plan (record { place = Outside; read = read; feed = feed })
at_start plan read feed none new =
    let told : AreTold read.texts (steps_texts (raw_steps read.texts (kinds_by_node plan) feed)) =
    subst (λ (all : List (List ℕ)). AreTold all (steps_texts (raw_steps read.texts (kinds_by_node plan) feed))) (sym none) tt in
    subst (λ (first : Read). AreNumberedSteps (kinds_by_node plan) (length read.texts) first → IsAt Outside (raw_steps read.texts (kinds_by_node plan) first) → AreReadSteps plan (record { place = Outside; read = read; feed = feed })) new
    (λ numbered at. record { numbered = numbered; told = told; at = at })
    (record { batches = tt; blocks = tt; block = λ block here. cc here }) (refl, refl)

module _ (plan : Plan) (before : ReadSteps) (read : ReadCells) (entry : Told) (so_far : AreReadSteps plan before) (is : IsReadEntry before.read.texts (kinds_within plan before.place) read entry) where
  abbrev kinds : List (List Kind)
  kinds = kinds_by_node plan

  abbrev known : List (List ℕ)
  known = before.read.texts

  abbrev told_is : Entry
  told_is = said read.texts (kinds_within plan before.place) read.cells.items entry

  own_kinds : kinds_of_block kinds before.feed.block ≡ kinds_within plan before.place
  own_kinds = kinds_at_hand plan before.place known before.feed.batches before.feed.blocks before.feed.block so_far.at

  grows : Grows known read.texts (entry_texts told_is)
  grows = entry_grows known (kinds_within plan before.place) read entry is

  pub numbered_now : AreNumberedSteps kinds (length read.texts) before.feed
  numbered_now = steps_more kinds (length known) (length read.texts) (grown_longer known read.texts (entry_texts told_is) grows) before.feed so_far.numbered

  pub own_numbered : IsNumberedEntry (kinds_of_block kinds before.feed.block) (length read.texts) read.cells.items entry
  own_numbered = subst (λ own. IsNumberedEntry own (length read.texts) read.cells.items entry) (sym own_kinds) (entry_numbered known (kinds_within plan before.place) read entry is)

  pub put_fits : ForSome before.feed.block (FitsRow entry (length read.cells.items))
  put_fits = λ block here.
      block_fits kinds (length read.texts) read.cells.items entry block (numbered_now.block block here)
      (subst (λ last. IsNumberedEntry (kinds_of_block kinds last) (length read.texts) read.cells.items entry) here own_numbered)

  module _ (new : Read) (number : ℕ) (put : raw_steps read.texts kinds new ≡ gathered (raw_steps read.texts kinds before.feed) number (said read.texts (kinds_of_block kinds before.feed.block) read.cells.items entry)) where
    -- what a record tells is gathered
    pub put_is : raw_steps read.texts kinds new ≡ gathered (steps_of plan before) number told_is
    put_is =
        put
        ∙ ap (λ own. gathered (raw_steps read.texts kinds before.feed) number (said read.texts own read.cells.items entry)) own_kinds
        ∙ ap (λ so_far. gathered so_far number told_is) (ap (λ texts. raw_steps texts kinds before.feed) grows.1 ∙ steps_kept kinds known grows.0 before.feed so_far.numbered)

    pub more_steps : (place : BlockState) → place ≡ place_after before.place told_is → AreNumberedSteps kinds (length read.texts) new → (steps : ℕ) → EntryFits plan before.place steps told_is
        → AreReadSteps plan (record { place = place; read = read; feed = new })
    more_steps place after numbered steps fits = record {
      numbered = numbered;
      told =
          subst (λ (all : Gathered). AreTold read.texts (steps_texts all)) (sym put_is)
          (subst (λ (texts : List (List ℕ)). AreTold texts (steps_texts (gathered (steps_of plan before) number told_is))) (sym grows.1)
          (told_more plan before.place steps (steps_of plan before) number told_is known grows.0 fits so_far.at so_far.told grows.2));
      at = subst (λ (all : Gathered). IsAt place all) (sym put_is) (subst (λ at. IsAt at (gathered (steps_of plan before) number told_is)) (sym after) (at_after before.place (steps_of plan before) number told_is so_far.at));
    }

-- the end of a feed, where no step is begun
ended_texts : (place : BlockState) (so_far : Gathered) → is_outside place ≡ true → IsAt place so_far → steps_texts so_far ≡ flat_map batch_texts so_far.batches
ended_texts Outside so_far outside at =
    let front = flat_map batch_texts so_far.batches in
    ap₂ (λ blocks last. front ++ flat_map block_texts (blocks ++ option_to_list last)) at.0 at.1 ∙ append-nil front
ended_texts (Inside table part last) so_far outside at = cc outside

pub batches_numbered : (plan : Plan) (read : ReadSteps) → is_outside read.place ≡ true → AreReadSteps plan read → AreNumberedBatches (kinds_by_node plan) read.read.texts read.feed.batches
batches_numbered plan read outside steps = record {
  blocks_are = steps.numbered.batches;
  told = subst (AreTold read.read.texts) (ended_texts read.place (steps_of plan read) outside steps.at) steps.told;
}

-- a record that is taken
module _ (plan : Plan) (before after : ReadSteps) (number : ℕ) (fields : List (List ℕ)) (others : List (List (List ℕ))) where
  pub step_told : (done : Unit {0}) → IsStep plan (number + 1) before after (Ok done) (entry_of plan before.place (length before.feed.batches) fields)
      → (left_to_read plan before.place (steps_of plan before) number (fields ∷ others) ≡ left_to_read plan after.place (steps_of plan after) (number + 1) others) × (length before.feed.batches ≤ 100000 → length after.feed.batches ≤ 100000)
  step_told done step = of (entry_of plan before.place (length before.feed.batches) fields) refl step
    where
      of : (told : Result Entry TextKind) → entry_of plan before.place (length before.feed.batches) fields ≡ told → IsStep plan (number + 1) before after (Ok done) told
          → (left_to_read plan before.place (steps_of plan before) number (fields ∷ others) ≡ left_to_read plan after.place (steps_of plan after) (number + 1) others) × (length before.feed.batches ≤ 100000 → length after.feed.batches ≤ 100000)
      of (Err kind) is step = absurd step
      of (Ok entry) is step =
          let count = length-map before.feed.batches (raw_batch before.read.texts (kinds_by_node plan)) in
          let said = ap (λ steps. entry_of plan before.place steps fields) count ∙ is in (
            one_more plan before.place (steps_of plan before) number fields others entry said
                ∙ ap (λ place. left_to_read plan place (gathered (steps_of plan before) (number + 1) entry) (number + 1) others) (sym step.0)
                ∙ ap (λ so_far. left_to_read plan after.place so_far (number + 1) others) (sym step.1),
            λ few.
                omega (
                  arith,
                  sym (length-map after.feed.batches (raw_batch after.read.texts (kinds_by_node plan))),
                  ap (λ (all : Gathered). length all.batches) step.1,
                  few_steps plan before.place (steps_of plan before) (number + 1) entry (fits_at plan before.place (length (steps_of plan before).batches) fields entry said) (omega (arith, count, few)),
                ),
          )

  pub step_refused : (kind : TextKind) → IsStep plan (number + 1) before after (Err kind) (entry_of plan before.place (length before.feed.batches) fields) → left_to_read plan before.place (steps_of plan before) number (fields ∷ others) ≡ Err (number + 1, kind)
  step_refused kind step = of (entry_of plan before.place (length before.feed.batches) fields) refl step
    where
      of : (told : Result Entry TextKind) → entry_of plan before.place (length before.feed.batches) fields ≡ told → IsStep plan (number + 1) before after (Err kind) told → left_to_read plan before.place (steps_of plan before) number (fields ∷ others) ≡ Err (number + 1, kind)
      of (Ok entry) is step = absurd step
      of (Err refusal) is step =
          refused plan before.place (steps_of plan before) number fields others kind
          (ap (λ steps. entry_of plan before.place steps fields) (length-map before.feed.batches (raw_batch before.read.texts (kinds_by_node plan))) ∙ is ∙ ap (λ k. Err k) (sym step))
