pub mod Filled
pub mod Cells
pub mod Equal
