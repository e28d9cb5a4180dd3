pub mod Layout
pub mod View
pub mod Asking
pub mod Here
pub mod Zeros
pub mod Paths
pub mod Load
