pub mod Arguments
pub mod Errors
pub mod Jobs
pub mod Shape
pub mod Spelling
pub mod Statuses
