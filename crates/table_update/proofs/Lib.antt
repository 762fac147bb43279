pub mod Absent
pub mod CoalescedKeys
pub mod ColumnLists
pub mod KeysAfter
pub mod LawfulParts
pub mod Occupied
pub mod Parts
pub mod StillKeys
