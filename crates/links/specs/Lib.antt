pub mod View
pub mod Zeros
pub mod Change
pub mod Close
pub mod Same
