pub mod Faults
pub mod OneToOne
pub mod Reading
pub mod Snapshots
pub mod Told
