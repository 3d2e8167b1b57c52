pub mod Pools
pub mod Measure
