pub mod Acts
pub mod Counted
pub mod Balance
pub mod Texts
