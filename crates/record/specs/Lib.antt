pub mod Pairs
pub mod Verdicts
pub mod Stretches
pub mod Records
pub mod Building
