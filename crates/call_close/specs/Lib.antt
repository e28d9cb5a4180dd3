pub mod Close
pub mod Remove
