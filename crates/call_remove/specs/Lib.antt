pub mod Leg
pub mod Peer
