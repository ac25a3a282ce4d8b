pub mod Devices
pub mod Frames
pub mod Format
pub mod Reading
pub mod Statuses
