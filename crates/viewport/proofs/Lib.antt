pub mod ExampleTicks
pub mod KeptRows
pub mod MessageReads
pub mod Messages
pub mod Mirroring
pub mod SliceCells
pub mod SliceTables
pub mod Subscriptions
