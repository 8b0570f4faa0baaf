pub mod Laws
pub mod Turn
pub mod Whole
pub mod Cases
pub mod Worked
