pub mod Slipped
pub mod Passing
pub mod Resting
pub mod Steps
pub mod Laws
