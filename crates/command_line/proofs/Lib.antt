pub mod Adding
pub mod Commands
pub mod Getters
pub mod Uses
pub mod Walks
