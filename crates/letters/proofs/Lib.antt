pub mod Walks
pub mod Laws
pub mod Cases
