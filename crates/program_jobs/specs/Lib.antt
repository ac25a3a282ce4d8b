pub mod Faults
pub mod Served
