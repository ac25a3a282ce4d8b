pub mod Digits
pub mod RingValues
