pub mod Layout
pub mod Session
pub mod Cut
pub mod Within
pub mod Step
pub mod Run
pub mod Feed
pub mod Row
