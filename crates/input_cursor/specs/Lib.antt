pub mod Span
pub mod Took
