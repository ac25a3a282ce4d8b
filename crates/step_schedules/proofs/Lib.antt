pub mod Comments
pub mod Copies
pub mod Due
