pub mod Sessions
pub mod Ready
pub mod Worked
