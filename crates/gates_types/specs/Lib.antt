pub mod View
pub mod Loops
pub mod Judge
