pub mod Chosen
pub mod Step
