pub mod Writes
pub mod Openings
