pub mod Draws
pub mod Plan
pub mod Run
pub mod Steps
pub mod Tables
