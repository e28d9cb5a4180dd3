pub mod Layout
pub mod View
pub mod Later
pub mod Head
