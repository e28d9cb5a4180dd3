pub mod Promise
pub mod Determined
pub mod Numbers
pub mod Meets
