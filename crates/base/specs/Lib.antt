pub mod Masks
pub mod Checks
