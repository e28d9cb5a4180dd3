pub mod Whole
pub mod Input
pub mod Program
pub mod After
pub mod Within
pub mod Step
pub mod Turns
