pub mod Layout
pub mod Contract
pub mod Promise
