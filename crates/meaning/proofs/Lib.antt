pub mod Runs
pub mod Sets
pub mod Ages
pub mod Cases
