-- A list in chunks.
--     contents chunks      the items of each chunk
--     joined lists      the items of all of them
--     list_at index lists      the items of the chunk at an index
--     position_in lists place      the position of a place among all items
--     IsReplaced few most old new      one chunk is replaced by from `few` to `most` others, or these come where there was none
--     IsSplit index list old new      the chunk at an index is replaced by two that are this list
use Rattle.std.{specs.Prelude.{ℕ, suc, ◌≡◌, ◌+◌, ◌-◌, ◌^◌, ◌<◌, ◌≤◌, List, [], ◌++◌, drop, insert, length, map, slice_set, take, slice_index_or}, specs.List.{AllByRecursion, flat_map}, specs.Global.Vec}
use Rattle.chunk_list.specs.declared.counts.ChunkPosition.{ChunkPosition}

abbrev pub contents : {T : Type 0} → List (Vec T) → List (List T)
contents = map (λ chunk. chunk.items)

abbrev pub joined : {T : Type 0} → List (List T) → List T
joined = flat_map (λ list. list)

abbrev pub list_at : {T : Type 0} → ℕ → List (List T) → List T
list_at index lists = slice_index_or lists index []

abbrev pub position_in : {T : Type 0} → List (List T) → ChunkPosition → ℕ
position_in lists place = length (joined (take place.index lists)) + place.offset

abbrev pub AreFilled : {T : Type 0} → List (List T) → Type 0
AreFilled = AllByRecursion (λ list. 0 < length list)

pub record IsChunk {T : Type 0} (chunk : List T) : Type 0 where
  pub some : 1 ≤ length chunk
  pub few : length chunk ≤ 512

pub record IsReplaced {T : Type 0} (few most : ℕ) (old new : List (List T)) : Type 0 where
  pub at : ℕ
  pub parts : List (List T)
  pub within : at ≤ length old - 1
  pub some : few ≤ length parts
  pub no_more : length parts ≤ most
  pub list : new ≡ take at old ++ (parts ++ drop (suc at) old)

pub record IsSplit {T : Type 0} (index : ℕ) (list : List T) (old new : List (List T)) : Type 0 where
  pub lower : List T
  pub upper : List T
  pub some_below : 0 < length lower
  pub some_above : 0 < length upper
  pub both : lower ++ upper ≡ list
  pub lists : new ≡ insert (slice_set old index lower) (suc index) upper

-- no chunk is empty or too long, and the items of each are counted
pub record AreChunks {T : Type 0} (lists : List (List T)) (counts : List ℕ) : Type 0 where
  pub sizes : AllByRecursion IsChunk lists
  pub counted : counts ≡ map length lists
  pub few : length (joined lists) ≤ 2 ^ 62

-- the item at a position stands in a chunk, behind so many others of it
pub record IsPlace {T : Type 0} (lists : List (List T)) (position : ℕ) (place : ChunkPosition) : Type 0 where
  pub index : place.index < length lists
  pub offset : place.offset < length (list_at place.index lists)
  pub position_is : position_in lists place ≡ position
