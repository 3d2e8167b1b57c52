pub mod Cells
pub mod Reads
pub mod New
pub mod Pools
