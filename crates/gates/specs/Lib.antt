pub mod View
pub mod Walk
pub mod Order
pub mod Place
pub mod Put
pub mod Still
pub mod Same
