pub mod Choosing
pub mod Lane
pub mod Options
