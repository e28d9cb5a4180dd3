pub mod Code
pub mod Passed
