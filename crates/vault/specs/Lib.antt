pub mod Marks
pub mod State
pub mod Turns
pub mod Said
pub mod Texts
