pub mod FromNew
pub mod Lines
pub mod Places
pub mod Printing
pub mod ReadRequests
pub mod ServedLines
pub mod ServedParts
pub mod Tasks
