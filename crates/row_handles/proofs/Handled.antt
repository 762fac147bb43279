-- What callers may rely on.
use Rattle.std.proofs.Common.{◌^◌, ◌<◌}
use Rattle.key_lists.proofs.Every.{every-map}
use Rattle.row_handles.{specs.declared.index.HandleIndex.HandleIndex, specs.Entries.AreHandled, specs.Blocks.{IsIndex, rows}, proofs.EntryLists.rising_keys, proofs.Places.{located, distinct}}

pub handled : (index : HandleIndex) → IsIndex index → AreHandled (rows index.blocks.items)
handled index sound = record {
  keys = record { rising = rising_keys (rows index.blocks.items) sound.ascend; small = every-map (λ key. key < 2 ^ 62) (λ x. x.key) (rows index.blocks.items) sound.small };
  handles = distinct index.ceilings index.places (rows index.blocks.items) sound.ascend (located index.ceilings index.places index.blocks.items sound.placed);
}
