pub mod Msg1
pub mod Arrived
