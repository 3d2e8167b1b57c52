pub mod Rooms
pub mod Refusals
pub mod Measures
