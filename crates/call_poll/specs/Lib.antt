pub mod Poll
pub mod Wake
