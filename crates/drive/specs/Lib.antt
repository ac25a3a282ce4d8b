pub mod Drives
pub mod Exchanging
pub mod Numbering
pub mod QtestLines
pub mod QtestLaws
pub mod QtestState
pub mod QtestRequests
pub mod Statuses
