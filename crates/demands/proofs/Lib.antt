pub mod Order
pub mod Counting
pub mod Refusals
pub mod Streams
pub mod Demands
pub mod EachNumber
pub mod Cases
