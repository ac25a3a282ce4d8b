pub mod Faults
pub mod Names
pub mod Reasons
pub mod Rings
pub mod Targets
