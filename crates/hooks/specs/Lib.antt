pub mod Meaning
pub mod Laws
pub mod Rules
pub mod Ready
pub mod Beside
pub mod Pairs
pub mod Lawfulness
pub mod Texts
