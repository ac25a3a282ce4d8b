pub mod Addresses
pub mod GroupLists
pub mod Hashed
pub mod Laws
pub mod NumberTables
pub mod Passing
pub mod Registers
pub mod Writing
