pub mod Layout
pub mod View
pub mod Entry
pub mod At
pub mod Start
