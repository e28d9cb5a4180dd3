pub mod Tests
pub mod Replays
