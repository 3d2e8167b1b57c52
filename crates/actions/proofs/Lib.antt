pub mod Acknowledges
pub mod Through
pub mod Changes
pub mod Walks
pub mod Counts
pub mod Balances
