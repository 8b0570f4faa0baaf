pub mod Tables
pub mod Runs
pub mod Sets
pub mod Ages
