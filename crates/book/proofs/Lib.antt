pub mod Backs
pub mod Currencies
