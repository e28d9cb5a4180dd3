pub mod Read
pub mod Hello
