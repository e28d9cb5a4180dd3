pub mod Count
pub mod Enter
