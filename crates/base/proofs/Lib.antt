pub mod Tests
pub mod Masks
pub mod Checks
pub mod Rules
pub mod Cases
