pub mod Did
pub mod Sound
pub mod Loop
