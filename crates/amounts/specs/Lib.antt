pub mod Checks
pub mod Pair
pub mod Rounding
pub mod Rows
pub mod Shares
