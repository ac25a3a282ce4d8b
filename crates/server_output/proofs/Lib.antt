pub mod Parts
pub mod PartsWritten
pub mod HeardOne
pub mod Writing
pub mod Ending
