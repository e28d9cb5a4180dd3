pub mod Ask
pub mod Kind
