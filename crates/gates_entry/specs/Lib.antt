pub mod Layout
pub mod Rows
pub mod View
pub mod Entry
