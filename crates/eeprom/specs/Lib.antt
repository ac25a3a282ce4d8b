pub mod Eerd
pub mod EerdHistory
pub mod EerdLaws
pub mod Hashed
pub mod Image
