pub mod Laws
pub mod Steps
pub mod Promises
pub mod Cases
