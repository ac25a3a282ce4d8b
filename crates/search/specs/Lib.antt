pub mod Tests
pub mod Searches
pub mod Orders
pub mod Actions
pub mod Options
pub mod Generators
pub mod Draws
pub mod Shrinking
