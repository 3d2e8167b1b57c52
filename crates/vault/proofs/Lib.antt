pub mod Fitting
pub mod Nesting
pub mod Performing
