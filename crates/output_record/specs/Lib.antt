pub mod Write
pub mod Size
