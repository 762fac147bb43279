-- The steps that are gathered record by record are those of the definition.
use Rattle.std.proofs.Common.{◌≡◌, ℕ, ◌+◌, List, [], ◌∷◌, ◌++◌, Bool, true, false, Option, Some, None, Ok, Err, refl, sym, ap, ◌∙◌, subst, length, ltb, append_assoc, length-append, take_while, ◌≤◌, arith}
use Rattle.std.{specs.Prelude.option_map, specs.List.filter_map, specs.Option.option_to_list, proofs.lemmas.Bool.{cond-true, cond-false, le-ltb}, proofs.lemmas.List.append-nil, proofs.lemmas.List.Sums.take_while-cons}
use Rattle.tick_model.specs.declared.plan.Plan.{Plan}
use Rattle.feed_reader.{specs.Said.{Entry, Block, Removed, Shift, Added, Modified, End}, specs.declared.fault.TextKind.TextKind, specs.declared.fault.TextKind.TheVariants.{NotUtf8, TooLong, Unfinished}, specs.declared.place.BlockState.BlockState, specs.declared.place.BlockState.TheVariants.{Outside, Inside}, specs.declared.raw.RawBatch.RawBatch, specs.declared.raw.RawBlock.RawBlock, specs.declared.raw.RawFeed.RawFeed, specs.Answers.{Reading, onto, read_on}, specs.Entries.{entry_of, tag_of, tagged_entry}, specs.Feeds.{entries_in, steps_after, is_of_block, removed_range, shift_range, added_row, modified_row, block_with, blocks_from, batches_after, batches_of, feed_with, feed_in, feed_of}, specs.Gathered.{Gathered, nothing, ended_blocks, with_entry, gathered}, specs.Places.{place_after, is_outside}, specs.Records.{are_texts, field_of, records_of}, proofs.Orderly.{EntryFits, Orderly, orderly}}

-- all that is gathered from records, the first of which has this number
abbrev pub gathered_all : Gathered → ℕ → List Entry → Gathered
gathered_all so_far number [] = so_far
gathered_all so_far number (entry ∷ entries) = gathered_all (gathered so_far number entry) (number + 1) entries

abbrev pub onwards : Gathered → ℕ → Reading (List Entry) → Reading RawFeed
onwards so_far number (Ok entries) = Ok (record { batches = (gathered_all so_far number entries).batches })
onwards so_far number (Err refused) = Err refused

-- the last record ends a step
is_end : Entry → Bool
is_end (Block table) = false
is_end (Removed range) = false
is_end (Shift range) = false
is_end (Added row) = false
is_end (Modified row) = false
is_end End = true

EndsWell : Bool → List Entry → Type 0
EndsWell outside [] = outside ≡ true
EndsWell outside (entry ∷ entries) = EndsWell (is_end entry) entries

-- the block at hand, with the records that still belong to it
extended : RawBlock → List Entry → RawBlock
extended block own = record {
  table = block.table;
  number = block.number;
  removed = block.removed ++ filter_map removed_range own;
  shifts = block.shifts ++ filter_map shift_range own;
  added = block.added ++ filter_map added_row own;
  modified = block.modified ++ filter_map modified_row own;
}

extended-none : (block : RawBlock) → extended block [] ≡ block
unfolding extended
extended-none block = simp append-nil

last_block : Option RawBlock → List Entry → List RawBlock
last_block None entries = []
last_block (Some block) entries = extended block (take_while is_of_block entries) ∷ []

last-ended : (block : Option RawBlock) (entries : List Entry) → take_while is_of_block entries ≡ [] → last_block block entries ≡ option_to_list block
unfolding last_block
last-ended None entries none = refl
last-ended (Some block) entries none = ap (λ own. extended block own ∷ []) none ∙ ap (λ b. b ∷ []) (extended-none block)

-- a record of a part goes to the block at hand
part-extended : (block : RawBlock) (entry : Entry) (own : List Entry) → is_of_block entry ≡ true → extended (with_entry entry block) own ≡ extended block (entry ∷ own)
unfolding extended
part-extended block (Removed range) own is = simp append_assoc
part-extended block (Shift range) own is = simp append_assoc
part-extended block (Added row) own is = simp append_assoc
part-extended block (Modified row) own is = simp append_assoc
part-extended block (Block table) own is = cc
part-extended block End own is = cc

pub own-more : (entry : Entry) (entries : List Entry) → is_of_block entry ≡ true → take_while is_of_block (entry ∷ entries) ≡ entry ∷ take_while is_of_block entries
own-more entry entries is = take_while-cons is_of_block entry entries ∙ cond-true (is_of_block entry) (entry ∷ take_while is_of_block entries) [] is

last-part : (block : Option RawBlock) (entry : Entry) (entries : List Entry) → is_of_block entry ≡ true → last_block (option_map (with_entry entry) block) entries ≡ last_block block (entry ∷ entries)
unfolding last_block
last-part None entry entries is = refl
last-part (Some block) entry entries is =
    ap (λ b. b ∷ []) (part-extended block entry (take_while is_of_block entries) is) ∙ ap (λ own. extended block own ∷ []) (sym (own-more entry entries is))

-- the step at hand, with the records that still belong to it
open_batch : Gathered → ℕ → List Entry → RawBatch
open_batch so_far number entries = record { blocks = (so_far.blocks ++ last_block so_far.block entries) ++ blocks_from number entries }

Gathers : Gathered → ℕ → List Entry → Type 0
Gathers so_far number entries = (gathered_all so_far number entries).batches ≡ so_far.batches ++ open_batch so_far number entries ∷ batches_after number entries

ended-step : (so_far : Gathered) (number : ℕ) (entries : List Entry) → ended_blocks so_far ≡ (so_far.blocks ++ last_block so_far.block (End ∷ entries)) ++ []
ended-step so_far number entries = sym (append-nil (so_far.blocks ++ last_block so_far.block (End ∷ entries)) ∙ ap (λ last. so_far.blocks ++ last) (last-ended so_far.block (End ∷ entries) refl))

part_gathers : (so_far : Gathered) (number : ℕ) (entry : Entry) (entries : List Entry) → is_of_block entry ≡ true → gathered so_far number entry ≡ record so_far { block = option_map (with_entry entry) so_far.block } → blocks_from number (entry ∷ entries) ≡ blocks_from (number + 1) entries → batches_after number (entry ∷ entries) ≡ batches_after (number + 1) entries → Gathers (record so_far { block = option_map (with_entry entry) so_far.block }) (number + 1) entries → Gathers so_far number (entry ∷ entries)
unfolding Gathers open_batch
part_gathers so_far number entry entries is takes blocks batches more =
    ap (λ (next : Gathered). (gathered_all next (number + 1) entries).batches) takes
    ∙ more
    ∙ ap (λ last. so_far.batches ++ (record { blocks = (so_far.blocks ++ last) ++ blocks_from (number + 1) entries }) ∷ batches_after (number + 1) entries) (last-part so_far.block entry entries is)
    ∙ ap (λ own. so_far.batches ++ (record { blocks = (so_far.blocks ++ last_block so_far.block (entry ∷ entries)) ++ own }) ∷ batches_after (number + 1) entries) (sym blocks)
    ∙ ap (λ later. so_far.batches ++ open_batch so_far number (entry ∷ entries) ∷ later) (sym batches)

gathers : (so_far : Gathered) (number : ℕ) (entry : Entry) (entries : List Entry) → EndsWell (is_end entry) entries → Gathers so_far number (entry ∷ entries)
unfolding EndsWell is_end Gathers open_batch last_block extended
gathers so_far number End [] ends = ap (λ blocks. so_far.batches ++ (record { blocks = blocks }) ∷ []) (ended-step so_far number [])
gathers so_far number End (next ∷ entries) ends =
    let ended : RawBatch = record { blocks = ended_blocks so_far } in
    gathers (gathered so_far number End) (number + 1) next entries ends
    ∙ append_assoc so_far.batches (ended ∷ []) (open_batch (gathered so_far number End) (number + 1) (next ∷ entries) ∷ batches_after (number + 1) (next ∷ entries))
    ∙ ap (λ blocks. so_far.batches ++ (record { blocks = blocks }) ∷ batches_after number (End ∷ next ∷ entries)) (ended-step so_far number (next ∷ entries))
gathers so_far number (Block table) [] ends = cc
gathers so_far number (Block table) (next ∷ entries) ends =
    let block = block_with table number (take_while is_of_block (next ∷ entries)) in
    let rest = blocks_from (number + 1) (next ∷ entries) in
    gathers (gathered so_far number (Block table)) (number + 1) next entries ends
    ∙ ap (λ blocks. so_far.batches ++ (record { blocks = blocks }) ∷ batches_after (number + 1) (next ∷ entries))
    (append_assoc (ended_blocks so_far) (block ∷ []) rest ∙ ap (λ last. (so_far.blocks ++ last) ++ block ∷ rest) (sym (last-ended so_far.block (Block table ∷ next ∷ entries) refl)))
gathers so_far number (Removed range) [] ends = cc
gathers so_far number (Removed range) (next ∷ entries) ends = part_gathers so_far number (Removed range) (next ∷ entries) refl refl refl refl (gathers (gathered so_far number (Removed range)) (number + 1) next entries ends)
gathers so_far number (Shift range) [] ends = cc
gathers so_far number (Shift range) (next ∷ entries) ends = part_gathers so_far number (Shift range) (next ∷ entries) refl refl refl refl (gathers (gathered so_far number (Shift range)) (number + 1) next entries ends)
gathers so_far number (Added row) [] ends = cc
gathers so_far number (Added row) (next ∷ entries) ends = part_gathers so_far number (Added row) (next ∷ entries) refl refl refl refl (gathers (gathered so_far number (Added row)) (number + 1) next entries ends)
gathers so_far number (Modified row) [] ends = cc
gathers so_far number (Modified row) (next ∷ entries) ends = part_gathers so_far number (Modified row) (next ∷ entries) refl refl refl refl (gathers (gathered so_far number (Modified row)) (number + 1) next entries ends)

batches_same : (entries : List Entry) → EndsWell true entries → batches_of entries ≡ (gathered_all nothing 1 entries).batches
unfolding EndsWell Gathers open_batch last_block
batches_same [] ends = refl
batches_same (entry ∷ entries) ends = sym (gathers nothing 1 entry entries ends)

-- after a record the reading is outside where the record ends a step
ends_after : (plan : Plan) (place : BlockState) (steps : ℕ) (entry : Entry) → EntryFits plan place steps entry → is_outside (place_after place entry) ≡ is_end entry
unfolding is_end
ends_after plan Outside steps (Block table) fits = refl
ends_after plan Outside steps (Removed range) fits = absurd fits
ends_after plan Outside steps (Shift range) fits = absurd fits
ends_after plan Outside steps (Added row) fits = absurd fits
ends_after plan Outside steps (Modified row) fits = absurd fits
ends_after plan Outside steps End fits = refl
ends_after plan (Inside table at last) steps (Block other) fits = refl
ends_after plan (Inside table at last) steps (Removed range) fits = refl
ends_after plan (Inside table at last) steps (Shift range) fits = refl
ends_after plan (Inside table at last) steps (Added row) fits = refl
ends_after plan (Inside table at last) steps (Modified row) fits = refl
ends_after plan (Inside table at last) steps End fits = refl

ends_well : (plan : Plan) (place : BlockState) (steps : ℕ) (entries : List Entry) → Orderly plan place steps entries → EndsWell (is_outside place) entries
unfolding EndsWell
ends_well plan place steps [] fits = fits
ends_well plan place steps (entry ∷ entries) fits =
    let P : Bool → Type 0 = λ outside. EndsWell outside entries in
    subst P (ends_after plan place steps entry fits.0) (ends_well plan (place_after place entry) (steps_after steps entry) entries fits.1)

-- from the first record on
started : (told : Reading (List Entry)) → ((entries : List Entry) → told ≡ Ok entries → EndsWell true entries) → feed_with told ≡ onwards nothing 1 told
started (Ok entries) ends = ap (λ batches. let feed : RawFeed = record { batches = batches } in Ok feed) (batches_same entries (ends entries refl))
started (Err refused) ends = refl

-- what the feed is, where so much is gathered and these records are left
abbrev pub left_to_read : Plan → BlockState → Gathered → ℕ → List (List (List ℕ)) → Reading RawFeed
left_to_read plan place feed number left = onwards feed (number + 1) (entries_in plan place (length feed.batches) number left)

pub feed_start : (plan : Plan) (records : List (List (List ℕ))) → feed_in plan records ≡ left_to_read plan Outside nothing 0 records
feed_start plan records = started (entries_in plan Outside 0 0 records) (λ entries e. ends_well plan Outside 0 entries (orderly plan Outside 0 0 records entries e).0)

-- one more record
onto_onwards : (feed : Gathered) (number : ℕ) (entry : Entry) (told : Reading (List Entry)) → onwards feed number (onto entry told) ≡ onwards (gathered feed number entry) (number + 1) told
onto_onwards feed number entry (Ok entries) = refl
onto_onwards feed number entry (Err refused) = refl

steps_same : (feed : Gathered) (number : ℕ) (entry : Entry) → steps_after (length feed.batches) entry ≡ length (gathered feed number entry).batches
steps_same feed number (Block table) = refl
steps_same feed number (Removed range) = refl
steps_same feed number (Shift range) = refl
steps_same feed number (Added row) = refl
steps_same feed number (Modified row) = refl
steps_same feed number End = sym (length-append feed.batches ((record { blocks = ended_blocks feed }) ∷ []))

pub one_more : (plan : Plan) (place : BlockState) (feed : Gathered) (number : ℕ) (fields : List (List ℕ)) (others : List (List (List ℕ))) (entry : Entry) → entry_of plan place (length feed.batches) fields ≡ Ok entry → left_to_read plan place feed number (fields ∷ others) ≡ left_to_read plan (place_after place entry) (gathered feed (number + 1) entry) (number + 1) others
one_more plan place feed number fields others entry e =
    ap (λ told. onwards feed (number + 1) (read_on (number + 1) told (λ next. entries_in plan (place_after place next) (steps_after (length feed.batches) next) (number + 1) others))) e
    ∙ onto_onwards feed (number + 1) entry (entries_in plan (place_after place entry) (steps_after (length feed.batches) entry) (number + 1) others)
    ∙ ap (λ steps. onwards (gathered feed (number + 1) entry) (number + 1 + 1) (entries_in plan (place_after place entry) steps (number + 1) others)) (steps_same feed (number + 1) entry)

pub refused : (plan : Plan) (place : BlockState) (feed : Gathered) (number : ℕ) (fields : List (List ℕ)) (others : List (List (List ℕ))) (kind : TextKind) → entry_of plan place (length feed.batches) fields ≡ Err kind → left_to_read plan place feed number (fields ∷ others) ≡ Err (number + 1, kind)
refused plan place feed number fields others kind e =
    ap (λ told. onwards feed (number + 1) (read_on (number + 1) told (λ next. entries_in plan (place_after place next) (steps_after (length feed.batches) next) (number + 1) others))) e

-- a step is ended only where there may be one more
pub few_steps : (plan : Plan) (place : BlockState) (feed : Gathered) (number : ℕ) (entry : Entry) → EntryFits plan place (length feed.batches) entry → length feed.batches ≤ 100000 → length (gathered feed number entry).batches ≤ 100000
few_steps plan place feed number (Block table) fits few = few
few_steps plan place feed number (Removed range) fits few = few
few_steps plan place feed number (Shift range) fits few = few
few_steps plan place feed number (Added row) fits few = few
few_steps plan place feed number (Modified row) fits few = few
few_steps plan place feed number End fits few = omega (arith, length-append feed.batches ((record { blocks = ended_blocks feed }) ∷ []))

-- where the reading ends
pub not_text : (plan : Plan) (place : BlockState) (feed : Gathered) (number : ℕ) (fields : List (List ℕ)) (others : List (List (List ℕ))) → are_texts fields ≡ false → left_to_read plan place feed number (fields ∷ others) ≡ Err (number + 1, NotUtf8)
not_text plan place feed number fields others other =
    refused plan place feed number fields others NotUtf8 (cond-false (are_texts fields) (tagged_entry plan place (length feed.batches) (tag_of (field_of fields 0)) fields) (Err NotUtf8) other)

pub finished : (plan : Plan) (place : BlockState) (feed : Gathered) (number : ℕ) → is_outside place ≡ true → left_to_read plan place feed number [] ≡ Ok (record { batches = feed.batches })
finished plan Outside feed number outside = refl
finished plan (Inside table part last) feed number outside = cc outside

pub unfinished : (plan : Plan) (place : BlockState) (feed : Gathered) (number : ℕ) → is_outside place ≡ false → left_to_read plan place feed number [] ≡ Err (number, Unfinished)
unfinished plan Outside feed number inside = cc inside
unfinished plan (Inside table part last) feed number inside = refl

pub within_bytes : (plan : Plan) (bytes : List ℕ) → length bytes ≤ 67108864 → feed_of plan bytes ≡ feed_in plan (records_of bytes)
within_bytes plan bytes few = cond-false (ltb 67108864 (length bytes)) (Err (0, TooLong)) (feed_in plan (records_of bytes)) (le-ltb 67108864 (length bytes) few)
