pub mod Field
pub mod Sole
