pub mod Figures
pub mod Holds
pub mod Worked
pub mod Texts
