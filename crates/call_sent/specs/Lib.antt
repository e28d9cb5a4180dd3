pub mod Install
pub mod Sent
