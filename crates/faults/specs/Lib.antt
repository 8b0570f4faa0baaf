pub mod Faults
pub mod Sound
pub mod Numbered
