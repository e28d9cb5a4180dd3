pub mod Dialed
pub mod Msg2
