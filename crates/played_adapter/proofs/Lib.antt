pub mod Choosing
pub mod Happening
pub mod Playing
pub mod Putting
mod Quiet
pub mod Cycles
pub mod Schedules
pub mod Dues
pub mod EachKind
pub mod Telling
