pub mod Adapters
pub mod Words
pub mod FileErrors
