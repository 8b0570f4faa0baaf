pub mod Order
pub mod Counting
pub mod Refusals
pub mod EachNumber
pub mod Streams
pub mod Demands
