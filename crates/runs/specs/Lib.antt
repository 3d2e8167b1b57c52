pub mod History
pub mod Law
pub mod Held
pub mod Turned
pub mod Played
pub mod Texts
