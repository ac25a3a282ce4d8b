pub mod Choices
mod Lanes
mod Steps
mod Writes
