pub mod Put
pub mod Ruling
pub mod Answer
pub mod Displace
pub mod Admit
